-- The verdicts on contracts: their lines one behind another, and the answer of `check`.
use Rattle.std.proofs.Common.{◌≡◌, ◌∙◌, ◌≤◌, ◌^◌, inl, inr, ℕ, Bool, true, false, List, [], ◌∷◌, ◌++◌, append_assoc, ap, arith, map, refl, subst, sym, unsigned_abs}
use Rattle.std.specs.Prelude.{IfOk, None, Some, Result, Ok, Err, is_ok}
use Rattle.std.proofs.lemmas.Bool.{and_parts, and_from}
use Rattle.std.proofs.lemmas.List.{append-nil, map-append}
use Rattle.std.proofs.lemmas.List.Elements.{All-nil, All-pop, All-push}
use Rattle.term_model.specs.declared.name.Name.{Name}
use Rattle.term_model.specs.declared.rules.RuleFault.{RuleFault}
use Rattle.term_model.specs.Books.{Book}
use Rattle.term_model.specs.Declarations.{Declarations}
use Rattle.term_model.specs.Terms.{Contract, contract}
use Rattle.term_model.proofs.RefusalFacts.{accepted_not_refused}
use Rattle.contract_parse.specs.NextContracts.{IsNext}
use Rattle.contract_grammar.specs.Texts.{Text}
use Rattle.contract_parse.specs.declared.next_contracts.ContractReader.{ContractReader}
use Rattle.contract_parse.specs.declared.next_contracts.NextContract.{NextContract}
use Rattle.time_types.specs.Starts.{start_day}
use Rattle.contract_check.specs.Checks.{IsGranted, told}
use Rattle.contract_check.specs.declared.checks.Facts.{Facts}
use Rattle.report.specs.CheckLines.{accepted_line, verdict_line}
use Rattle.command_courses.specs.declared.status.Status.{Status}
use Rattle.command_courses.specs.declared.status.Status.TheVariants as status
use Rattle.used_contracts.specs.AcceptingParts.{IsVerdictOf}
use Rattle.used_contracts.specs.UsedContracts.{at_defaults, used}
use Rattle.used_contracts.proofs.FirstFacts.{IsAcceptedEntry}
use Rattle.used_contracts.proofs.UsedFacts.{total_small, used_of}
use Rattle.text_commands.specs.CheckParts.{AddsVerdict, AppendsVerdict, AppendsVerdicts, AreTextVerdicts, AreVerdicts, HasVerdicts}
use Rattle.text_commands.specs.CheckPromise.{AreCheckLines, IsCheckLine, Verdict, accepted, refused}
use Rattle.text_commands.specs.declared.check.CheckText.{CheckText}

-- ---- one verdict

pub verdict_small : (d : Declarations) (c : Contract) (v : Result Facts RuleFault) → IsVerdictOf d c v → IfOk v (λ facts. unsigned_abs facts.total ≤ 10 ^ 37)
verdict_small d c (Ok facts) g = let most = total_small d c g.accepted in let same = g.right.right_total in omega arith
verdict_small d c (Err fault) r = tt

granted_line : (d : Declarations) (name : List ℕ) (c : Contract) (facts : Facts) → IsGranted d c facts → IsCheckLine d name c (verdict_line d.amounts name (Ok facts))
granted_line d name c facts g =
    accepted (told facts) g.accepted g.right g.causal (ap (λ total. accepted_line d.amounts name (start_day facts.start) facts.scale total facts.horizon) g.positive)

pub one_verdict : (d : Declarations) (entry : Name × Contract) (v : Result Facts RuleFault) (ok : Bool) (before after : List ℕ) → IsVerdictOf d entry.1 v → ok ≡ is_ok v → after ≡ before ++ verdict_line d.amounts entry.0 v → AppendsVerdict d entry ok before after
one_verdict d entry (Ok facts) ok before after g is appended = record {
  line = verdict_line d.amounts entry.0 (Ok facts);
  is_line = granted_line d entry.0 entry.1 facts g;
  appended = appended;
  decides = ((λ _. g.accepted), (λ _. is));
}
one_verdict d entry (Err fault) ok before after r is appended = record {
  line = verdict_line d.amounts entry.0 (Err fault);
  is_line = refused fault.rule fault.node r refl;
  appended = appended;
  decides = ((λ yes. let h : false ≡ true = sym is ∙ yes in absurd cc), (λ a. absurd (accepted_not_refused d entry.1 fault.rule fault.node a r)));
}

-- ---- one verdict behind another

pub verdicts_none : (d : Declarations) (check : CheckText) → check.all_accepted ≡ true → check.text.items ≡ [] → AreVerdicts d [] check
verdicts_none d check all none = record {
  text = [];
  lines = refl;
  appended = none;
  decides = ((λ yes. (refl, All-nil (IsAcceptedEntry d))), (λ both. all));
}

check_lines_more : (d : Declarations) (entries : List (Name × Contract)) (entry : Name × Contract) (text line : List ℕ) → AreCheckLines d entries text → IsCheckLine d entry.0 entry.1 line → AreCheckLines d (entries ++ entry ∷ []) (text ++ line)
check_lines_more d [] entry text line none is = (line, [], is, refl, ap (λ (t : List ℕ). t ++ line) none ∙ sym (append-nil line))
check_lines_more d (e ∷ es) entry text line some is =
    (some.0, some.1 ++ line, some.2, check_lines_more d es entry some.1 line some.3 is, ap (λ (t : List ℕ). t ++ line) some.4 ∙ append_assoc some.0 some.1 line)

pub verdicts_more : (d : Declarations) (entries : List (Name × Contract)) (entry : Name × Contract) (before after : CheckText) → AreVerdicts d entries before → AddsVerdict d entry before after → AreVerdicts d (entries ++ entry ∷ []) after
verdicts_more d entries entry before after vs v =
    let one = v.appended in
    let Accepted : Name × Contract → Type 0 = IsAcceptedEntry d in
    record {
      text = vs.text ++ one.line;
      lines = check_lines_more d entries entry vs.text one.line vs.lines one.is_line;
      appended = one.appended ∙ ap (λ (t : List ℕ). t ++ one.line) vs.appended;
      decides = (
        (λ yes.
            let parts = and_parts before.all_accepted v.accepted (sym v.joined ∙ yes) in
            (refl, All-push Accepted entries entry (vs.decides.0 parts.0).1 (one.decides.0 parts.1))),
        (λ both.
            let split = All-pop Accepted (entries ++ entry ∷ []) entries (Some entry) refl both.1 in
            v.joined ∙ and_from before.all_accepted v.accepted (vs.decides.1 (refl, split.0)) (one.decides.1 split.1)),
      );
    }

-- ---- the answer of `check`

module _ (b : Book) (all : Bool) (text : List ℕ) (vs : AppendsVerdicts b.declarations (used None b) true all [] text) where
  pub lines_all : AreCheckLines b.declarations (used None b) text
  lines_all = subst (λ (t : List ℕ). AreCheckLines b.declarations (used None b) t) (sym vs.appended) vs.lines

  pub verdict_done : (s : Status) → all ≡ true → s ≡ status.Done → Verdict b s
  verdict_done s every is = inl (is, (vs.decides.0 every).1)

  pub verdict_refused : (s : Status) → all ≡ false → s ≡ status.Refused → Verdict b s
  verdict_refused s some is = inr (is, λ granted. let h : false ≡ true = sym some ∙ vs.decides.1 (refl, granted) in absurd cc)

-- ---- all contracts of a text

-- all are used where no name is asked for
pub all_used : (d : Declarations) (entries : List (Name × Contract)) → used_of None d entries ≡ map (at_defaults d) entries
all_used d [] = refl
all_used d (e ∷ es) = ap (λ (zs : List (Name × Contract)). at_defaults d e ∷ zs) (all_used d es)

pub entries_more : (d : Declarations) (entries : List (Name × Contract)) (entry : Name × Contract) → map (at_defaults d) (entries ++ entry ∷ []) ≡ map (at_defaults d) entries ++ at_defaults d entry ∷ []
entries_more d entries entry = map-append (at_defaults d) entries (entry ∷ [])

-- ---- one contract after another

-- the verdicts on the whole text
pub all_of_text : (text : List ℕ) (d : Declarations) (reader : ContractReader) (check : CheckText) (h : HasVerdicts text d reader check) → Text text (record { declarations = d; contracts = h.entries }) → AreTextVerdicts text check
all_of_text text d reader check h whole = record {
  of = record { declarations = d; contracts = h.entries };
  is_text = whole;
  verdicts = subst (λ (es : List (Name × Contract)). AreVerdicts d es check) (sym (all_used d h.entries)) h.verdicts;
}

pub more_of_text : (text : List ℕ) (d : Declarations) (reader after : ContractReader) (check more : CheckText) (one : NextContract) (h : HasVerdicts text d reader check) → IsNext text d h.entries after one
    → AddsVerdict d (at_defaults d (one.name.now, contract one.contr)) check more → HasVerdicts text d after more
more_of_text text d reader after check more one h next adds =
    let entry : Name × Contract = (one.name.now, contract one.contr) in
    record {
      entries = h.entries ++ entry ∷ [];
      read = next.read;
      verdicts = subst (λ (es : List (Name × Contract)). AreVerdicts d es more) (sym (entries_more d h.entries entry))
          (verdicts_more d (map (at_defaults d) h.entries) (at_defaults d entry) check more h.verdicts adds);
    }
