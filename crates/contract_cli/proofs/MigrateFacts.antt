-- A portfolio has the verdicts and the flow lines in one version that it has in any other, and what was migrated is migrated to
-- itself.
use Rattle.std.proofs.Common.{◌≡◌, ◌∙◌, inl, inr, ℕ, ℤ, pos, ◌-ℤ◌, ◌+ℤ◌, Bool, true, false, List, [], ◌∷◌, ap, ap₂, refl, subst, sym}
use Rattle.std.specs.Prelude.{None, Option, codes}
use Rattle.std.proofs.Math.Path.{fun_ext}
use Rattle.std.proofs.lemmas.List.Elements.{All-weaker}
use Rattle.term_model.specs.Acceptance.{IsAccepted}
use Rattle.term_model.specs.Books.{Book}
use Rattle.term_model.specs.Causality.{IsCausal}
use Rattle.term_model.specs.Declarations.{Declarations}
use Rattle.term_model.specs.Environments.{Environment, Place}
use Rattle.term_model.specs.Flows.{Flow}
use Rattle.term_model.specs.LawsDeclarations.{HasOneMeaning, HasOneVerdict, MeanTheSame}
use Rattle.term_model.specs.Reads.{first_unfixed}
use Rattle.term_model.specs.Terms.{Contract}
use Rattle.term_model.specs.declared.name.Name.{Name}
use Rattle.term_model.proofs.MeaningFacts.{one_meaning}
use Rattle.term_model.proofs.VerdictFacts.{one_verdict}
use Rattle.contract_parse.proofs.OneText.{one_text}
use Rattle.contract_print.specs.Canon.{IsCanon}
use Rattle.contract_print.specs.Migrated.{migrated}
use Rattle.contract_print.proofs.LinesSpelled.{book_spelled, one_canon}
use Rattle.contract_print.proofs.MigratedFacts.{migrated_spellable}
use Rattle.flow_eval.specs.FlowAnswers.{AreKnownFlows}
use Rattle.flow_eval.specs.Tables.{IsTable, paid_by}
use Rattle.flow_eval.specs.declared.flow_table.FlowRow.{FlowRow}
use Rattle.report.specs.FlowLines.{IsFlowLine}
use Rattle.used_contracts.specs.AllAccepted.{AreAllAccepted}
use Rattle.text_commands.specs.CheckPromise.{AreCheckLines, IsCheckLine, IsCheckText, accepted, refused, Verdict}
use Rattle.flow_commands.specs.FlowsPromise.{AreAllLines, AreLines, AreLinesAsked, paid_together}
use Rattle.used_contracts.specs.UsedContracts.{used}
use Rattle.command_courses.specs.declared.status.Status.{Status}
use Rattle.contract_cli.specs.TwoRuns.{MigratedSayTheSame, MigratedStay}

module _ (d : Declarations) (v : ℕ) where
  abbrev pub next : Declarations
  next = record d { version = v }

  forth : MeanTheSame d next
  forth = record { amounts = refl; labels = refl }

  back : MeanTheSame next d
  back = record { amounts = refl; labels = refl }

  pub meaning : HasOneMeaning d next
  meaning = one_meaning d next forth

  pub verdict : HasOneVerdict d next
  verdict = one_verdict d next forth (λ a. refl)

  -- ---- verdicts

  pub still_accepted : (entries : List (Name × Contract)) → AreAllAccepted d entries → AreAllAccepted next entries
  still_accepted entries all = All-weaker (λ entry. IsAccepted d entry.1) (λ entry. IsAccepted next entry.1) (λ entry h. verdict.accepted entry.1 h) entries all

  was_accepted : (entries : List (Name × Contract)) → AreAllAccepted next entries → AreAllAccepted d entries
  was_accepted entries all =
      All-weaker (λ entry. IsAccepted next entry.1) (λ entry. IsAccepted d entry.1) (λ entry h. (one_verdict next d back (λ a. refl)).accepted entry.1 h) entries all

  still_causal : (c : Contract) → IsCausal d c → IsCausal next c
  still_causal c h one other admitted more f n agree m within w =
      sym (meaning.amounts c one f m w) ∙ h one other admitted more f n agree m within w ∙ meaning.amounts c other f m w

  check_line : (name : List ℕ) (c : Contract) (line : List ℕ) → IsCheckLine d name c line → IsCheckLine next name c line
  check_line name c line (accepted facts one are causal is) = accepted facts (verdict.accepted c one) (verdict.facts c facts are) (still_causal c causal) is
  check_line name c line (refused rule node refusal is) = refused rule node (verdict.refused c rule node refusal) is

  check_lines : (entries : List (Name × Contract)) (text : List ℕ) → AreCheckLines d entries text → AreCheckLines next entries text
  check_lines [] text is = is
  check_lines (entry ∷ entries) text (first, rest, one, others, is) = (first, rest, check_line entry.0 entry.1 first one, check_lines entries rest others, is)

  -- ---- flow lines

  pub flow_line : (name : List ℕ) (row : FlowRow) (line : List ℕ) → IsFlowLine d name row line → IsFlowLine next name row line
  flow_line name row line one = record { day = one.day; is_day = one.is_day; amount = one.amount; is_amount = one.is_amount; is_line = one.is_line }

  flow_lines : (name : List ℕ) (rows : List FlowRow) (text : List ℕ) → AreLines d name rows text → AreLines next name rows text
  flow_lines name [] text is = is
  flow_lines name (row ∷ rows) text (line, rest, one, others, is) = (line, rest, flow_line name row line one, flow_lines name rows rest others, is)

  pays_the_same : (c : Contract) (env : Environment) (first : ℤ) → paid_by d c env first ≡ paid_by next c env first
  pays_the_same c env first = fun_ext (λ day. fun_ext (λ w. meaning.amounts c env first (day -ℤ first) w))

  pub known_flows : (c : Contract) (fixings : Environment) (first last : ℤ) (rows : List FlowRow) → AreKnownFlows d c fixings first last rows → AreKnownFlows next c fixings first last rows
  known_flows c fixings first last rows h = record {
    fixed = ap (λ (places : List Place). first_unfixed fixings places) (sym (meaning.reads_of_contracts c [] [] fixings first (pos 0) (last -ℤ first))) ∙ h.fixed;
    table = λ env extends. subst (λ (pays : ℤ → Flow → ℤ). IsTable pays first last rows) (pays_the_same c env first) (h.table env extends);
    due = h.due;
  }

  module _ (fixings : Environment) (last : ℤ) where
    all_lines : (entries : List (Name × Contract)) (text : List ℕ) → AreAllLines d fixings last entries text → AreAllLines next fixings last entries text
    all_lines [] text is = is
    all_lines (entry ∷ entries) text (first, rest, one, others, is) = (
      first,
      rest,
      record { rows = one.rows; flows = known_flows entry.1 fixings (pos d.start) last one.rows one.flows; lines = flow_lines entry.0 one.rows first one.lines },
      all_lines entries rest others,
      is,
    )

    pay_the_same : (env : Environment) (entries : List (Name × Contract)) (day : ℤ) (w : Flow) → paid_together d entries env day w ≡ paid_together next entries env day w
    pay_the_same env [] day w = refl
    pay_the_same env (entry ∷ entries) day w =
        ap₂ (λ (m n : ℤ). m +ℤ n) (meaning.amounts entry.1 env (pos d.start) (day -ℤ pos d.start) w) (pay_the_same env entries day w)

    lines_asked : (net : Bool) (entries : List (Name × Contract)) (text : List ℕ) → AreLinesAsked net d fixings last entries text → AreLinesAsked net next fixings last entries text
    lines_asked false entries text h = all_lines entries text h
    lines_asked true entries text h = record {
      rows = h.rows;
      table = λ env extends.
          subst (λ (pays : ℤ → Flow → ℤ). IsTable pays (pos d.start) last h.rows) (fun_ext (λ day. fun_ext (λ w. pay_the_same env entries day w))) (h.table env extends);
      lines = flow_lines (codes "*") h.rows text h.lines;
    }

-- ---- a portfolio

abbrev pub in_version : ℕ → Book → Book
in_version v b = record b { declarations = record b.declarations { version = v } }

module _ (v : ℕ) (b : Book) where
  verdict_there : (s : Status) → Verdict b s → Verdict (in_version v b) s
  verdict_there s (inl h) = inl (h.0, still_accepted b.declarations v (used None b) h.1)
  verdict_there s (inr h) = inr (h.0, λ all. h.1 (was_accepted b.declarations v (used None b) all))

  check_text_there : (s : Status) (text : List ℕ) → IsCheckText b s text → IsCheckText (in_version v b) s text
  check_text_there s text h = (verdict_there s h.0, check_lines b.declarations v (used None b) text h.1)

  pub flows_there : (net : Bool) (only : Option (List ℕ)) (fixings : Environment) (last : ℤ) (text : List ℕ) → AreLinesAsked net b.declarations fixings last (used only b) text
      → AreLinesAsked net (in_version v b).declarations fixings last (used only (in_version v b)) text
  flows_there net only fixings last text h = lines_asked b.declarations v fixings last net (used only b) text h

pub migrated_say_the_same : MigratedSayTheSame
migrated_say_the_same b = record {
  verdicts = λ s text. (check_text_there 2 b s text, check_text_there b.declarations.version (migrated b) s text);
  flows = λ net only fixings last text.
      (flows_there 2 b net only fixings last text, flows_there b.declarations.version (migrated b) net only fixings last text);
}

pub migrated_stay : MigratedStay
migrated_stay b rest text more fits canon spelled again =
    let same : rest ≡ migrated b = one_text text rest (migrated b) spelled (book_spelled text (migrated b) (migrated_spellable b fits) canon) in
    one_canon more text (migrated b) (subst (λ (x : Book). IsCanon more (migrated x)) same again) canon
