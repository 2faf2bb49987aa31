-- Lines that may stand here or be absent, and what they add.
use Rattle.std.proofs.Common.{◌≡◌, Bool, true, false, cond, Ok, Err, List, [], ◌∷◌, ◌++◌, refl, sym, ap, ◌∙◌}
use Rattle.std.specs.Prelude.{codes}
use Rattle.std.specs.Map.{keys_of}
use Rattle.std.specs.Str.{bytes_eq}
use Rattle.contract_grammar.proofs.EntryFacts.{entry_added, keys_added}
use Rattle.indexmap.specs.IndexMap.{insert_entry}
use Rattle.contract_grammar.specs.Tokens.{Tok}
use Rattle.contract_grammar.specs.Words.{Bytes, is_name, is_the_mark, is_the_word}
use Rattle.contract_grammar.specs.Names.{DeclaredNames, is_declared}
use Rattle.contract_grammar.specs.Judgements.{new_at, separator_at}
use Rattle.contract_grammar.specs.Spelling.{mark, valued, word}
use Rattle.contract_grammar.specs.Statements.{label_line}
use Rattle.contract_parse.specs.DeclarationReading.{label_range}
use Rattle.term_model.specs.declared.label.Label.{Label}
use Rattle.term_model.specs.declared.label.Label.TheVariants as label
use Rattle.contract_grammar.proofs.Parts.{followed_by}
use Rattle.contract_parse.specs.Expecting.{Expected, Next, LabelLines, flag_expected, number_label_expected, run, step}
use Rattle.contract_parse.specs.Reading.{Lacks}
use Rattle.contract_grammar.specs.declared.faults.TextKind.TheVariants.{Syntax, Twice}
use Rattle.contract_parse.proofs.Steps.{run-next, run-same}

-- where lines are expected that begin with a word: what follows the word, and what is expected behind the lines
module _ (s : DeclaredNames) (w : Bytes) (line inside behind : List Expected) (shape : (t : Tok) → step s line t ≡ cond (is_the_word w t) (Next s inside) (step s behind t)) where
  pub line_opens : (ts rest : List Tok) → word w ts rest → run s line ts ≡ run s inside rest
  line_opens ts rest (t, is, passes) = rw is (run-next s s line inside t rest (shape t ∙ ap (λ b. cond b (Next s inside) (step s behind t)) passes))

  pub line_absent : (ts : List Tok) → Lacks w ts → run s line ts ≡ run s behind ts
  line_absent ts x = rw x.is (run-same s line behind x.first x.after (shape x.first ∙ ap (λ b. cond b (Next s inside) (step s behind x.first)) x.other))

-- labels are of two kinds
module _ (s : DeclaredNames) (ps : List Expected) where
  flag_step : (t : Tok) → is_the_word (codes "num") t ≡ false → step s (LabelLines ∷ ps) t ≡ cond (is_the_word (codes "flag") t) (Next s (flag_expected (LabelLines ∷ ps))) (step s ps t)
  flag_step t other = ap (λ b. cond b (Next s (number_label_expected (LabelLines ∷ ps))) (cond (is_the_word (codes "flag") t) (Next s (flag_expected (LabelLines ∷ ps))) (step s ps t))) other

  pub number_opens : (ts rest : List Tok) → word (codes "num") ts rest → run s (LabelLines ∷ ps) ts ≡ run s (number_label_expected (LabelLines ∷ ps)) rest
  number_opens ts rest (t, is, passes) =
      rw is (run-next s s (LabelLines ∷ ps) (number_label_expected (LabelLines ∷ ps)) t rest (ap (λ b. cond b (Next s (number_label_expected (LabelLines ∷ ps))) (cond (is_the_word (codes "flag") t) (Next s (flag_expected (LabelLines ∷ ps))) (step s ps t))) passes))

  pub flag_opens : (ts rest : List Tok) → Lacks (codes "num") ts → word (codes "flag") ts rest → run s (LabelLines ∷ ps) ts ≡ run s (flag_expected (LabelLines ∷ ps)) rest
  flag_opens ts rest x (t, is, passes) =
      let both : x.first ∷ x.after ≡ t ∷ rest = sym x.is ∙ is in
      let same : x.first ≡ t = cc in
      let other : is_the_word (codes "num") t ≡ false = ap (λ u. is_the_word (codes "num") u) (sym same) ∙ x.other in
      rw is (run-next s s (LabelLines ∷ ps) (flag_expected (LabelLines ∷ ps)) t rest (flag_step t other ∙ ap (λ b. cond b (Next s (flag_expected (LabelLines ∷ ps))) (step s ps t)) passes))

  pub labels_absent : (ts : List Tok) → Lacks (codes "num") ts → Lacks (codes "flag") ts → run s (LabelLines ∷ ps) ts ≡ run s ps ts
  labels_absent ts x y =
      let both : x.first ∷ x.after ≡ y.first ∷ y.after = sym x.is ∙ y.is in
      let same : x.first ≡ y.first = cc in
      let other : is_the_word (codes "num") y.first ≡ false = ap (λ u. is_the_word (codes "num") u) (sym same) ∙ x.other in
      rw y.is (run-same s (LabelLines ∷ ps) ps y.first y.after (flag_step y.first other ∙ ap (λ b. cond b (Next s (flag_expected (LabelLines ∷ ps))) (step s ps y.first)) y.other))

-- ---- what a separator is

comma_true : (comma semi : Bool) → cond comma (Ok true) (cond semi (Ok false) (Err Syntax)) ≡ Ok true → comma ≡ true
comma_true true semi e = refl
comma_true false true e = absurd cc
comma_true false false e = absurd cc

semi_true : (comma semi : Bool) → cond comma (Ok true) (cond semi (Ok false) (Err Syntax)) ≡ Ok false → semi ≡ true
semi_true true semi e = absurd cc
semi_true false true e = refl
semi_true false false e = absurd cc

pub is_comma : (comma : Bool) (ts rest : List Tok) → comma ≡ true → valued separator_at comma ts rest → mark (codes ",") ts rest
is_comma comma ts rest e (t, is, passes) = (t, is, comma_true (is_the_mark (codes ",") t) (is_the_mark (codes ";") t) (passes ∙ ap (λ b. Ok b) e))

pub is_semicolon : (comma : Bool) (ts rest : List Tok) → comma ≡ false → valued separator_at comma ts rest → mark (codes ";") ts rest
is_semicolon comma ts rest e (t, is, passes) = (t, is, semi_true (is_the_mark (codes ",") t) (is_the_mark (codes ";") t) (passes ∙ ap (λ b. Ok b) e))

-- ---- a new entry

new_is : (is there : Bool) (text name : Bytes) → cond is (cond there (Err Twice) (Ok text)) (Err Syntax) ≡ Ok name → (there ≡ false) × (text ≡ name)
new_is true true text name e = absurd cc
new_is true false text name e = (refl, cc)
new_is false there text name e = absurd cc

-- a name that is new is none of the names before it
pub new_absent : (names : List Bytes) (name : Bytes) (ts rest : List Tok) → valued (new_at names) name ts rest → is_declared names name ≡ false
new_absent names name ts rest (t, is, passes) =
    let p = new_is (is_name t) (is_declared names t.text) t.text name passes in
    ap (is_declared names) (sym p.1) ∙ p.0

module _ {V : Type 0} where
  -- the entries after `insert`, and their names
  pub inserted_entry : (es after : List (Bytes × V)) (name : Bytes) (value : V) (ts rest : List Tok) → after ≡ insert_entry bytes_eq es name value → valued (new_at (keys_of es)) name ts rest → after ≡ es ++ (name, value) ∷ []
  inserted_entry es after name value ts rest is new = is ∙ entry_added es name value (new_absent (keys_of es) name ts rest new)

  pub inserted_names : (es after : List (Bytes × V)) (name : Bytes) (value : V) (ts rest : List Tok) → after ≡ insert_entry bytes_eq es name value → valued (new_at (keys_of es)) name ts rest → keys_of es ++ name ∷ [] ≡ keys_of after
  inserted_names es after name value ts rest is new = sym (ap keys_of (inserted_entry es after name value ts rest is new) ∙ keys_added es name value)

-- a number label, from its word on
pub number_spelled : (es : List (Bytes × Label)) (name : Bytes) (l : Label) (ts behind_word behind_name behind_range rest : List Tok) → word (codes "num") ts behind_word → valued (new_at (keys_of es)) name behind_word behind_name → label_range l behind_name behind_range → mark (codes ";") behind_range rest
    → label_line es name l ts rest
number_spelled es name (label.Number scale low high) ts behind_word behind_name behind_range rest w new is semi = followed_by behind_word w (followed_by behind_name new (followed_by behind_range is semi))
number_spelled es name label.Flag ts behind_word behind_name behind_range rest w new is semi = absurd is
