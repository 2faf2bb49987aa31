-- What `advance` prints is a text: the lines of what is due are comments, which change nothing, and behind them stands the
-- canonical text of what is left, which can be spelled.
use Rattle.std.proofs.Common.{◌≡◌, ◌∙◌, ℕ, zero, suc, ℤ, ◌+ℤ◌, List, [], ◌∷◌, ◌++◌, map, Option, Some, None, ap, ap₂, refl, subst, sym}
use Rattle.std.specs.Prelude.{All, codes}
use Rattle.std.specs.List.{AllByRecursion, filter}
use Rattle.std.specs.Map.{keys_of}
use Rattle.std.proofs.lemmas.List.{append_assoc}
use Rattle.std.proofs.lemmas.List.Elements.{All-from_recursion}
use Rattle.decimal.specs.Text.{text_of}
use Rattle.term_model.specs.declared.name.Name.{Name}
use Rattle.term_model.specs.Acceptance.{IsAccepted}
use Rattle.term_model.specs.Declarations.{Declarations, decimals_of}
use Rattle.term_model.specs.Environments.{Environment}
use Rattle.term_model.specs.Instances.{declared_numbers}
use Rattle.term_model.specs.Terms.{Contract}
use Rattle.term_model.specs.WellFormed.{HasOnlyNumbers}
use Rattle.contract_grammar.specs.Texts.{Text}
use Rattle.contract_print.specs.Comments.{IsComments}
use Rattle.contract_print.specs.Rests.{IsRestOf, IsSoundRest}
use Rattle.contract_print.specs.Spellable.{AreSpellable}
use Rattle.contract_print.proofs.CommentFacts.{comments_append, comments_change_nothing, no_comments, one_comment}
use Rattle.contract_print.proofs.DateTokens.{is_date_text}
use Rattle.contract_print.proofs.LinesSpelled.{book_spelled}
use Rattle.contract_print.proofs.PlainFacts.{IsPlain, date_plain, names_plain, number_plain, plain_append, plain_comment}
use Rattle.contract_print.proofs.RestFacts.{rest_accepted, rest_spellable}
use Rattle.contract_print.proofs.TextSpellable.{texts_spellable}
use Rattle.flow_eval.specs.declared.flow_table.FlowRow.{FlowRow}
use Rattle.report.specs.CheckLines.{line_feed}
use Rattle.report.specs.FlowLines.{IsDayText, IsFlowLine, field, name_at}
use Rattle.contract_cli.specs.AdvanceLaws.{AdvanceTextsAreTexts}
use Rattle.lifecycle_commands.specs.AdvancePromise.{AreComments, AreDueLines, AreResiduals, commented, last_gone}
use Rattle.used_contracts.specs.UsedContracts.{at_defaults, is_asked, used}
use Rattle.lifecycle_commands.proofs.AdvanceFacts.{left_names}
use Rattle.used_contracts.proofs.UsedFacts.{used_names}
use Rattle.used_contracts.proofs.UsedFacts.{own_instance}
use Rattle.lifecycle_commands.proofs.WritableFacts.{left_sound}

-- ---- a flow line may be a comment

-- a text with no line feed but its last byte, which is one
record IsOneLine (text : List ℕ) : Type 0 where
  body : List ℕ
  plain : IsPlain body
  is : text ≡ body ++ line_feed

line_end : IsOneLine line_feed
line_end = record { body = []; plain = refl; is = refl }

before_line : (front text : List ℕ) → IsPlain front → IsOneLine text → IsOneLine (front ++ text)
before_line front text plain line = record {
  body = front ++ line.body;
  plain = plain_append front line.body plain line.plain;
  is = ap (λ (rest : List ℕ). front ++ rest) line.is ∙ sym (append_assoc front line.body line_feed);
}

name_plain : (names : List Name) (index : ℕ) → AllByRecursion IsPlain names → IsPlain (name_at names index)
name_plain [] index all = refl
name_plain (name ∷ names) zero all = all.0
name_plain (name ∷ names) (suc index) all = name_plain names index all.1

day_plain : (origin : Option ℤ) (day : ℤ) (text : List ℕ) → IsDayText origin day text → IsPlain text
day_plain None day text is = subst IsPlain (sym is) (number_plain day 0)
day_plain (Some origin) day text is = date_plain text (is_date_text text (origin +ℤ day) is)

flow_line : (d : Declarations) (name : List ℕ) (row : FlowRow) (line : List ℕ) → AreSpellable d → IsPlain name → IsFlowLine d name row line → IsOneLine line
flow_line d name row line fits plain is =
    let parties = names_plain d.parties fits.parties in
    let assets = names_plain (keys_of d.assets) fits.assets in
    let decimals = decimals_of d row.asset in
    let amount = before_line (field (text_of is.amount decimals)) line_feed (number_plain is.amount decimals) line_end in
    let asset = before_line (field (name_at (keys_of d.assets) row.asset)) _ (name_plain (keys_of d.assets) row.asset assets) amount in
    let to = before_line (field (name_at d.parties row.to)) _ (name_plain d.parties row.to parties) asset in
    let «from» = before_line (field (name_at d.parties row.from)) _ (name_plain d.parties row.from parties) to in
    let day = before_line (field is.day) _ (day_plain d.origin row.day is.day is.is_day) «from» in
    subst IsOneLine (sym is.is_line) (before_line name _ plain day)

line_comment : (line : List ℕ) → IsOneLine line → IsComments (commented line)
line_comment line one =
    subst IsComments (ap (λ (rest : List ℕ). codes "# " ++ rest) (sym one.is)) (one_comment (32 ∷ one.body) (plain_comment (32 ∷ one.body) one.plain))

-- ---- what is due is comments

rows_comments : (d : Declarations) (name : List ℕ) (rows : List FlowRow) (text : List ℕ) → AreSpellable d → IsPlain name → AreComments d name rows text → IsComments text
rows_comments d name [] text fits plain is = subst IsComments (sym is) no_comments
rows_comments d name (row ∷ rows) text fits plain is =
    subst IsComments (sym is.4)
    (comments_append (commented is.0) is.1 (line_comment is.0 (flow_line d name row is.0 fits plain is.2)) (rows_comments d name rows is.1 fits plain is.3))

pub due_comments : (d : Declarations) (fixings : Environment) (last : ℤ) (entries : List (Name × Contract)) (text : List ℕ)
    → AreSpellable d → AllByRecursion IsPlain (keys_of entries) → AreDueLines d fixings last entries text → IsComments text
due_comments d fixings last [] text fits plain is = subst IsComments (sym is) no_comments
due_comments d fixings last (entry ∷ entries) text fits plain is =
    subst IsComments (sym is.4)
    (comments_append is.0 is.1 (rows_comments d entry.0 is.2.rows is.0 fits plain.0 is.2.comments) (due_comments d fixings last entries is.1 fits plain.1 is.3))

-- ---- what is left

-- what names no template is used as it is
pub used_same : (d : Declarations) (entries : List (Name × Contract)) → AllByRecursion (λ (entry : Name × Contract). HasOnlyNumbers entry.1) entries
    → map (at_defaults d) (filter (λ (entry : Name × Contract). is_asked None entry.0) entries) ≡ entries
used_same d [] all = refl
used_same d (entry ∷ entries) all =
    ap₂ (λ (c : Contract) (es : List (Name × Contract)). (entry.0, c) ∷ es) (own_instance (declared_numbers d) entry.1 all.0) (used_same d entries all.1)

module _ (d : Declarations) (fixings : Environment) (day : ℕ) where
  pub left_numbers : (entries rest : List (Name × Contract)) → AreResiduals d fixings day entries rest → AllByRecursion (λ (entry : Name × Contract). HasOnlyNumbers entry.1) rest
  left_numbers [] [] is = tt
  left_numbers (entry ∷ entries) (left ∷ rest) is = (is.1.numbers, left_numbers entries rest is.2)
  left_numbers _ _ is = absurd is

-- ---- the whole text

pub advance_texts_are_texts : AdvanceTextsAreTexts
advance_texts_are_texts bytes b asked table text spelled is =
    let d = b.declarations in
    let entries = used None b in
    let left_on = is.advanced in
    let rest = left_on.rest in
    let fits = texts_spellable bytes b spelled in
    let names : keys_of entries ≡ keys_of b.contracts = used_names d b.contracts in
    let left : IsRestOf b rest = record {
      day = is.day;
      within = is.can.is_day.no_later;
      declared = left_on.is_rest.declarations;
      names = left_names d is.fixings is.day entries rest.contracts left_on.is_rest.contracts ∙ names;
      each = All-from_recursion (λ (entry : Name × Contract). IsSoundRest d entry.1) rest.contracts (left_sound d is.fixings is.day entries rest.contracts left_on.is_rest.contracts);
    } in
    let plain = subst (λ (ns : List Name). AllByRecursion IsPlain ns) (sym names) (names_plain (keys_of b.contracts) fits.contracts) in
    let due = due_comments d is.fixings (last_gone is.day) entries left_on.due fits.declarations plain left_on.are_due in
    let canon = book_spelled left_on.canon rest (rest_spellable b rest fits left) left_on.is_canon in
    let same = used_same rest.declarations rest.contracts (left_numbers d is.fixings is.day entries rest.contracts left_on.is_rest.contracts) in
    record {
      day = is.day;
      fixings = is.fixings;
      can = is.can;
      rest = rest;
      is_rest = left_on.is_rest;
      spelled = subst (λ (bytes' : List ℕ). Text bytes' rest) (sym left_on.is) (comments_change_nothing left_on.due left_on.canon rest due canon);
      accepted = subst (λ (es : List (Name × Contract)). All (λ entry. IsAccepted rest.declarations entry.1) es) (sym same) (rest_accepted b rest left);
    }
