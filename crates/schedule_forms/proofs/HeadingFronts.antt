-- What tokens make of the first line and the declarations of a schedule file, whatever is expected behind them: they are
-- taken just where a front goes on with them, or refused, or no token of theirs.
use Rattle.std.proofs.Common.{◌≡◌, ℕ, ℤ, Bool, true, false, cond, Option, Some, None, Result, Ok, Err, List, [], ◌∷◌, ◌++◌, refl, sym, ap, ◌∙◌, subst}
use Rattle.std.specs.Prelude.{codes}
use Rattle.contract_grammar.specs.Tokens.{Tok}
use Rattle.contract_grammar.specs.Words.{Bytes, is_date, is_integer, is_name, is_number, is_the_mark, is_the_word}
use Rattle.contract_grammar.specs.Versions.{One, Two}
use Rattle.contract_grammar.specs.Names.{DeclaredNames, names_of, with_names}
use Rattle.contract_grammar.specs.Judgements.{bound_at, integer_at, is_version, new_at, origin_at, separator_at}
use Rattle.contract_parse.specs.Forms.{Part, Terminal, Nonterminal, Optional, Repeated, Form, at_token, empty}
use Rattle.contract_parse.specs.Fronts.{Declared, Declaration}
use Rattle.contract_parse.specs.Expecting.{Expected, TheWord, TheMark, TheVersion, IntegerAt, AmountsAt, OriginDate, OriginLine, StartLine, NameLines, AssetLines, LabelLines, TemplateLines, NewIn, MoreNames, DecimalsAt, MoreAssets, ScaleAt, BoundAt, BoundNumber, Step, Next, Refuse, asset_expected, bound_expected, flag_expected, judged, line_expected, list_expected, number_label_expected, range_expected, step, template_expected}
use Rattle.contract_grammar.specs.declared.names.NameSet.TheVariants.{Party}
use Rattle.contract_grammar.specs.declared.faults.TextKind.{TextKind}
use Rattle.contract_grammar.specs.declared.faults.TextKind.TheVariants as kind
use Rattle.contract_grammar.specs.declared.token.LexemeKind.TheVariants.{Word}
use Rattle.contract_grammar.proofs.TokenKinds.{of_mark, of_word}
use Rattle.contract_parse.proofs.FrontTakes.{Bars, Takes, barred, bars, one_bars, one_takes, optional_takes, repeated_takes, rests, symbol_bars, symbol_takes}
use Rattle.contract_parse.proofs.FrontExpecting.{all_parts, bound_formed, formed, integer_formed, new_formed, origin_formed}
use Rattle.contract_parse.proofs.FrontChoices.{either}
use Rattle.schedule_forms.specs.PlanFronts.{PlanSymbol, Shared, a_name, a_number, an_integer, plan_forms, plans_form, shared_form, the_mark, the_word}
use Rattle.schedule_forms.proofs.PlanFrontChoices.{Allows, Refused, Skips, skips_both, skips_none, skips_optional, skips_refused, skips_repeated, skips_takes, starts}

-- the forms of what is expected, and the plans behind them
abbrev pub heading_parts : List Expected → Form PlanSymbol
heading_parts qs = shared_form (all_parts qs) ++ plans_form

-- lines that begin with this word end where another part may begin with it
abbrev Ends : Bytes → List Expected → Type 0
Ends w qs = (t : Tok) → is_the_word w t ≡ true → Bars plan_forms (heading_parts qs) t

abbrev IsLast : List Expected → Type 0
IsLast [] = Unit {0}
IsLast (p ∷ ps) = ⊥

-- what is expected of a heading, of which the next token each time decides the form
abbrev pub IsHeading : List Expected → Type 0
IsHeading [] = Unit {0}
IsHeading (TheWord w ∷ qs) = IsHeading qs
IsHeading (TheMark m ∷ qs) = IsHeading qs
IsHeading (TheVersion ∷ qs) = IsHeading qs
IsHeading (IntegerAt most ∷ qs) = IsHeading qs
IsHeading (AmountsAt One ∷ qs) = IsLast qs
IsHeading (OriginDate ∷ qs) = IsHeading qs
IsHeading (OriginLine ∷ qs) = Ends (codes "origin") qs × IsHeading qs
IsHeading (StartLine ∷ qs) = Ends (codes "start") qs × IsHeading qs
IsHeading (NameLines w Party ∷ qs) = (w ≡ codes "party") × Ends w qs × IsHeading qs
IsHeading (AssetLines One amounts ∷ qs) = Ends (codes "asset") qs × IsHeading qs
IsHeading (LabelLines ∷ qs) = Ends (codes "num") qs × Ends (codes "flag") qs × IsHeading qs
IsHeading (TemplateLines ∷ qs) = Ends (codes "template") qs × IsHeading qs
IsHeading (NewIn set ∷ qs) = IsHeading qs
IsHeading (MoreNames set ∷ qs) = IsHeading qs
IsHeading (DecimalsAt One amounts ∷ qs) = IsHeading qs
IsHeading (MoreAssets One amounts ∷ qs) = IsHeading qs
IsHeading (ScaleAt ∷ qs) = IsHeading qs
IsHeading (BoundAt scale low ∷ qs) = IsHeading qs
IsHeading (BoundNumber negative scale low ∷ qs) = IsHeading qs
IsHeading _ = ⊥

-- what a token makes of what is expected, whatever is expected behind that: it goes on to more, it is refused, or what
-- stands behind them decides
pub data Meets (s : DeclaredNames) (qs : List Expected) (t : Tok) : Type 0 where
  goes : (s2 : DeclaredNames) (next : List Expected) → IsHeading next → ((ps : List Expected) → step s (qs ++ ps) t ≡ Next s2 (next ++ ps))
      → Takes plan_forms (heading_parts qs) t (heading_parts next) → Meets s qs t
  stops : (k : TextKind) → ((ps : List Expected) → step s (qs ++ ps) t ≡ Refuse k) → Refused (heading_parts qs) t k → Meets s qs t
  leaves : ((ps : List Expected) → step s (qs ++ ps) t ≡ step s ps t) → Skips (heading_parts qs) t plans_form → Meets s qs t

-- ---- a test, a judgement, and a part that may be absent

module _ (s : DeclaredNames) (qs : List Expected) (t : Tok) where
  abbrev Onward : List Expected → Type 0
  Onward next = Takes plan_forms (heading_parts qs) t (heading_parts next)

  abbrev Barred : Type 0
  Barred = Bars plan_forms (heading_parts qs) t

  by_test : (next : List Expected) (b : Bool) → IsHeading next → ((ps : List Expected) → step s (qs ++ ps) t ≡ cond b (Next s (next ++ ps)) (Refuse kind.Syntax)) → (b ≡ true → Onward next) → (b ≡ false → Barred) → Meets s qs t
  by_test next true heading is takes bars = goes s next heading is (takes refl)
  by_test next false heading is takes bars = stops kind.Syntax is (bars refl)

  by_judgement : {X : Type 0} (state : X → DeclaredNames) (next : X → List Expected) (b : Bool) (r : Result X TextKind) → b ≡ formed r → ((x : X) → IsHeading (next x)) → ((ps : List Expected) → step s (qs ++ ps) t ≡ judged r (λ x. Next (state x) (next x ++ ps)))
      → ((x : X) → b ≡ true → Onward (next x)) → (b ≡ true → Allows (heading_parts qs) t) → (b ≡ false → Barred) → Meets s qs t
  by_judgement state next b (Ok x) is heading shape takes may bars = goes (state x) (next x) (heading x) shape (takes x is)
  by_judgement state next b (Err kind.Syntax) is heading shape takes may bars = stops kind.Syntax shape (bars is)
  by_judgement state next b (Err kind.Number) is heading shape takes may bars = stops kind.Number shape (may is)
  by_judgement state next b (Err kind.Date) is heading shape takes may bars = stops kind.Date shape (may is)
  by_judgement state next b (Err kind.Deep) is heading shape takes may bars = stops kind.Deep shape (may is)
  by_judgement state next b (Err kind.Range) is heading shape takes may bars = stops kind.Range shape (may is)
  by_judgement state next b (Err kind.Twice) is heading shape takes may bars = stops kind.Twice shape (may is)
  by_judgement state next b (Err kind.Unknown) is heading shape takes may bars = stops kind.Unknown shape (may is)
  by_judgement state next b (Err kind.Utf8) is heading shape takes may bars = stops kind.Utf8 shape (may is)

  -- what is behind an absent part decides
  over : (behind : List Expected) → Skips (heading_parts qs) t (heading_parts behind) → ((ps : List Expected) → step s (qs ++ ps) t ≡ step s (behind ++ ps) t) → Meets s behind t → Meets s qs t
  over behind skips same (goes s2 next heading is takes) = goes s2 next heading (λ ps. same ps ∙ is ps) (skips_takes (heading_parts qs) (heading_parts behind) (heading_parts next) t skips takes)
  over behind skips same (stops k is refused) = stops k (λ ps. same ps ∙ is ps) (skips_refused (heading_parts qs) (heading_parts behind) t k skips refused)
  over behind skips same (leaves is more) = leaves (λ ps. same ps ∙ is ps) (skips_both (heading_parts qs) (heading_parts behind) plans_form t skips more)

  by_line : (next behind : List Expected) (b : Bool) → IsHeading next → ((ps : List Expected) → step s (qs ++ ps) t ≡ cond b (Next s (next ++ ps)) (step s (behind ++ ps) t)) → (b ≡ true → Onward next) → (b ≡ false → Skips (heading_parts qs) t (heading_parts behind))
      → Meets s behind t → Meets s qs t
  by_line next behind true heading is takes skips more = goes s next heading is (takes refl)
  by_line next behind false heading is takes skips more = over behind (skips refl) is more

-- one token of a form, and its judgement
by_token : {X : Type 0} (s : DeclaredNames) (qs : List Expected) (t : Tok) (test : Tok → Bool) (parts : Form PlanSymbol) (state : X → DeclaredNames) (next : X → List Expected) (r : Result X TextKind) → heading_parts qs ≡ Terminal test ∷ parts → test t ≡ formed r
    → ((x : X) → IsHeading (next x)) → ((x : X) → heading_parts (next x) ≡ parts) → ((ps : List Expected) → step s (qs ++ ps) t ≡ judged r (λ x. Next (state x) (next x ++ ps))) → Meets s qs t
by_token s qs t test parts state next r are is heading behind shape =
    by_judgement s qs t state next (test t) r is heading shape
    (λ x hit. takes_as (sym are) (sym (behind x)) (one_takes plan_forms test parts t hit))
    (λ hit. allows_as (sym are) (at_token hit))
    (λ miss. bars_as (sym are) (one_bars plan_forms test parts t miss))
  where
    takes_as : {a b c d : Form PlanSymbol} → a ≡ b → c ≡ d → Takes plan_forms a t c → Takes plan_forms b t d
    takes_as {b = b} {c = c} e f x = subst (λ parts. Takes plan_forms b t parts) f (subst (λ parts. Takes plan_forms parts t c) e x)

    allows_as : {a b : Form PlanSymbol} → a ≡ b → Allows a t → Allows b t
    allows_as e x = subst (λ parts. Allows parts t) e x

    bars_as : {a b : Form PlanSymbol} → a ≡ b → Bars plan_forms a t → Bars plan_forms b t
    bars_as e x = subst (λ parts. Bars plan_forms parts t) e x

-- ---- lines, lists and signs

abbrev shared : Declared → PlanSymbol
shared of = Shared (Declaration of)

-- the form of a symbol that has one
one_form : (test : Tok → Bool) (rest : Form PlanSymbol) (t : Tok) (b : Bool) → test t ≡ b → rests ((Terminal test ∷ rest) ∷ []) t ≡ cond b (rest ∷ []) []
one_form test rest t b e = ap (λ c. cond c (rest ∷ []) []) e

separator_comma : (t : Tok) → is_the_mark (codes ",") t ≡ true → separator_at t ≡ Ok true
separator_comma t hit = rw hit refl

separator_semicolon : (t : Tok) → is_the_mark (codes ",") t ≡ false → is_the_mark (codes ";") t ≡ true → separator_at t ≡ Ok false
separator_semicolon t miss hit = rw (miss, hit) refl

no_separator : (t : Tok) → is_the_mark (codes ",") t ≡ false → is_the_mark (codes ";") t ≡ false → separator_at t ≡ Err kind.Syntax
no_separator t miss nor = rw (miss, nor) refl

-- further names or assets of a list, and its semicolon
by_separator : (s : DeclaredNames) (p : Expected) (qs more : List Expected) (t : Tok) (of : Declared) (rest : Form PlanSymbol) (expected : Bool → List Expected → List Expected) → IsHeading more → IsHeading qs
    → rests (plan_forms (shared of)) t ≡ cond (is_the_mark (codes ",") t) (rest ∷ []) []
    → heading_parts (p ∷ qs) ≡ Repeated (shared of) ∷ the_mark (codes ";") ∷ heading_parts qs → heading_parts more ≡ rest ++ Repeated (shared of) ∷ the_mark (codes ";") ∷ heading_parts qs
    → ((ps : List Expected) → step s (p ∷ qs ++ ps) t ≡ judged (separator_at t) (λ comma. Next s (expected comma (qs ++ ps)))) → ((ps : List Expected) → expected true (qs ++ ps) ≡ more ++ ps) → ((ps : List Expected) → expected false (qs ++ ps) ≡ qs ++ ps) → Meets s (p ∷ qs) t
by_separator s p qs more t of rest expected in_more in_qs begins are behind shape comma semicolon =
    either (is_the_mark (codes ",") t)
    (λ hit. goes s more in_more (λ ps. shape ps ∙ ap (λ r. judged r (λ comma. Next s (expected comma (qs ++ ps)))) (separator_comma t hit) ∙ ap (λ qs. Next s qs) (comma ps))
    (subst (λ parts. Takes plan_forms (heading_parts (p ∷ qs)) t parts) (sym behind) (subst (λ parts. Takes plan_forms parts t (rest ++ all)) (sym are)
    (repeated_takes plan_forms starts (shared of) rest stop t (begins ∙ ap (λ c. cond c (rest ∷ []) []) hit) (one_bars plan_forms _ (heading_parts qs) t (of_mark (λ z. is_the_mark (codes ";") z ≡ false) (codes ",") t hit refl))))))
    (λ miss. either (is_the_mark (codes ";") t)
    (λ hit. goes s qs in_qs (λ ps. shape ps ∙ ap (λ r. judged r (λ comma. Next s (expected comma (qs ++ ps)))) (separator_semicolon t miss hit) ∙ ap (λ qs. Next s qs) (semicolon ps))
    (subst (λ parts. Takes plan_forms parts t (heading_parts qs)) (sym are) (skips_takes all stop (heading_parts qs) t (skipped miss) (one_takes plan_forms _ (heading_parts qs) t hit))))
    (λ nor. stops kind.Syntax (λ ps. shape ps ∙ ap (λ r. judged r (λ comma. Next s (expected comma (qs ++ ps)))) (no_separator t miss nor))
    (subst (λ parts. Bars plan_forms parts t) (sym are) (λ ts x. one_bars plan_forms _ (heading_parts qs) t nor ts ((skipped miss).on ts x)))))
  where
    stop : Form PlanSymbol
    stop = the_mark (codes ";") ∷ heading_parts qs

    all : Form PlanSymbol
    all = Repeated (shared of) ∷ stop

    skipped : is_the_mark (codes ",") t ≡ false → Skips all t stop
    skipped miss = skips_repeated (shared of) stop t (begins ∙ ap (λ c. cond c (rest ∷ []) []) miss)

abbrev a_bound : Part PlanSymbol
a_bound = Nonterminal (shared Declared.Bound)

signed_bound : (t : Tok) → is_the_mark (codes "-") t ≡ true → rests (plan_forms (shared Declared.Bound)) t ≡ (a_number ∷ []) ∷ []
signed_bound t hit = of_mark (λ z. rests (plan_forms (shared Declared.Bound)) z ≡ (a_number ∷ []) ∷ []) (codes "-") t hit refl

plain_bound : (t : Tok) (b : Bool) → is_the_mark (codes "-") t ≡ false → is_number t ≡ b → rests (plan_forms (shared Declared.Bound)) t ≡ cond b ([] ∷ []) []
plain_bound t b miss is = rw (miss, is) refl

-- a bound of a label, with or without a sign
by_sign : (s : DeclaredNames) (qs : List Expected) (scale : ℕ) (low : Option ℤ) (parts : Form PlanSymbol) (t : Tok) (next : ℤ → List Expected) → IsHeading qs → ((m : ℤ) → IsHeading (next m)) → heading_parts (BoundAt scale low ∷ qs) ≡ a_bound ∷ parts → heading_parts (BoundNumber true scale low ∷ qs) ≡ a_number ∷ parts
    → ((m : ℤ) → heading_parts (next m) ≡ parts) → ((m : ℤ) (ps : List Expected) → bound_expected scale low m (qs ++ ps) ≡ next m ++ ps) → Meets s (BoundAt scale low ∷ qs) t
by_sign s qs scale low parts t next in_qs in_next are numbered behind expected =
    either (is_the_mark (codes "-") t)
    (λ hit. goes s (BoundNumber true scale low ∷ qs) in_qs (λ ps. ap (λ b. cond b (Next s (BoundNumber true scale low ∷ qs ++ ps)) (plain ps)) hit)
    (subst (λ a. Takes plan_forms (heading_parts (BoundAt scale low ∷ qs)) t a) (sym numbered) (subst (λ a. Takes plan_forms a t (a_number ∷ parts)) (sym are)
    (symbol_takes plan_forms starts (shared Declared.Bound) (a_number ∷ []) parts t (signed_bound t hit)))))
    (λ miss. by_judgement s (BoundAt scale low ∷ qs) t (λ m. s) next (is_number t) (bound_at false scale low t) (bound_formed false scale low t) in_next
    (λ ps. ap (λ b. cond b (Next s (BoundNumber true scale low ∷ qs ++ ps)) (plain ps)) miss ∙ ap (λ (expected : ℤ → List Expected). judged (bound_at false scale low t) (λ m. Next s (expected m))) (λ i m. expected m ps i))
    (λ m hit. subst (λ a. Takes plan_forms (heading_parts (BoundAt scale low ∷ qs)) t a) (sym (behind m)) (subst (λ a. Takes plan_forms a t parts) (sym are) (takes miss hit)))
    (λ hit. subst (λ a. Allows a t) (sym are) ((takes miss hit).back [] empty))
    (λ nor. subst (λ a. Bars plan_forms a t) (sym are) (symbol_bars plan_forms starts (shared Declared.Bound) parts t (plain_bound t false miss nor))))
  where
    plain : List Expected → Step
    plain ps = judged (bound_at false scale low t) (λ m. Next s (bound_expected scale low m (qs ++ ps)))

    takes : is_the_mark (codes "-") t ≡ false → is_number t ≡ true → Takes plan_forms (a_bound ∷ parts) t parts
    takes miss hit = symbol_takes plan_forms starts (shared Declared.Bound) [] parts t (plain_bound t true miss hit)

-- ---- the lines of declarations

word_ends : (w : Bytes) (qs : List Expected) → ((left : ℕ) → barred plan_forms (heading_parts qs) (record { kind = Word; text = w; left = left }) ≡ true) → Ends w qs
word_ends w qs e t is = of_word (λ z. Bars plan_forms (heading_parts qs) z) w t is (bars plan_forms starts (heading_parts qs) _ (e t.left))

module _ (k : ℕ) where
  -- the expected from each line on
  abbrev labels_on : List Expected
  labels_on = LabelLines ∷ TemplateLines ∷ []

  abbrev parties_on : List Expected
  parties_on = NameLines (codes "party") Party ∷ AssetLines One k ∷ labels_on

  lines_decided : IsHeading (line_expected One k [])
  lines_decided = (
    word_ends (codes "origin") (StartLine ∷ parties_on) (λ left. refl),
    (
      word_ends (codes "start") parties_on (λ left. refl),
      (
        refl,
        word_ends (codes "party") (AssetLines One k ∷ labels_on) (λ left. refl),
        (
          word_ends (codes "asset") labels_on (λ left. refl),
          (
            word_ends (codes "num") (TemplateLines ∷ []) (λ left. refl),
            word_ends (codes "flag") (TemplateLines ∷ []) (λ left. refl),
            (word_ends (codes "template") [] (λ left. refl), tt),
          ),
        ),
      ),
    ),
  )

abbrev a_date : Part PlanSymbol
a_date = Terminal is_date

abbrev names_rest : Declared → Form PlanSymbol
names_rest further = a_name ∷ Repeated (shared further) ∷ the_mark (codes ";") ∷ []

abbrev number_rest : Form PlanSymbol
number_rest = a_name ∷ the_mark (codes ":") ∷ an_integer ∷ the_word (codes "in") ∷ a_bound ∷ the_mark (codes "..") ∷ a_bound ∷ the_mark (codes ";") ∷ []

abbrev flag_rest : Form PlanSymbol
flag_rest = a_name ∷ the_mark (codes ";") ∷ []

abbrev template_rest : Form PlanSymbol
template_rest = a_name ∷ the_mark (codes "=") ∷ an_integer ∷ the_mark (codes ";") ∷ []

-- lines of one form, any number of them
by_lines : (s : DeclaredNames) (p : Expected) (next qs : List Expected) (t : Tok) (of : Declared) (test : Tok → Bool) (rest : Form PlanSymbol) → heading_parts (p ∷ qs) ≡ Repeated (shared of) ∷ heading_parts qs → heading_parts next ≡ rest ++ Repeated (shared of) ∷ heading_parts qs
    → rests (plan_forms (shared of)) t ≡ cond (test t) (rest ∷ []) [] → (test t ≡ true → Bars plan_forms (heading_parts qs) t) → IsHeading next → ((ps : List Expected) → step s (p ∷ qs ++ ps) t ≡ cond (test t) (Next s (next ++ ps)) (step s (qs ++ ps) t)) → Meets s qs t → Meets s (p ∷ qs) t
by_lines s p next qs t of test rest are behind begins ends in_next shape more =
    by_line s (p ∷ qs) t next qs (test t) in_next shape
    (λ hit. subst (λ a. Takes plan_forms (heading_parts (p ∷ qs)) t a) (sym behind) (subst (λ a. Takes plan_forms a t (rest ++ Repeated (shared of) ∷ heading_parts qs)) (sym are)
    (repeated_takes plan_forms starts (shared of) rest (heading_parts qs) t (begins ∙ ap (λ c. cond c (rest ∷ []) []) hit) (ends hit))))
    (λ miss. subst (λ a. Skips a t (heading_parts qs)) (sym are) (skips_repeated (shared of) (heading_parts qs) t (begins ∙ ap (λ c. cond c (rest ∷ []) []) miss)))
    more

-- a line that may be absent
by_optional : (s : DeclaredNames) (p : Expected) (next qs : List Expected) (t : Tok) (of : Declared) (test : Tok → Bool) (rest : Form PlanSymbol) → heading_parts (p ∷ qs) ≡ Optional (shared of) ∷ heading_parts qs → heading_parts next ≡ rest ++ heading_parts qs
    → rests (plan_forms (shared of)) t ≡ cond (test t) (rest ∷ []) [] → (test t ≡ true → Bars plan_forms (heading_parts qs) t) → IsHeading next → ((ps : List Expected) → step s (p ∷ qs ++ ps) t ≡ cond (test t) (Next s (next ++ ps)) (step s (qs ++ ps) t)) → Meets s qs t → Meets s (p ∷ qs) t
by_optional s p next qs t of test rest are behind begins ends in_next shape more =
    by_line s (p ∷ qs) t next qs (test t) in_next shape
    (λ hit. subst (λ a. Takes plan_forms (heading_parts (p ∷ qs)) t a) (sym behind) (subst (λ a. Takes plan_forms a t (rest ++ heading_parts qs)) (sym are)
    (optional_takes plan_forms starts (shared of) rest (heading_parts qs) t (begins ∙ ap (λ c. cond c (rest ∷ []) []) hit) (ends hit))))
    (λ miss. subst (λ a. Skips a t (heading_parts qs)) (sym are) (skips_optional (shared of) (heading_parts qs) t (begins ∙ ap (λ c. cond c (rest ∷ []) []) miss)))
    more

-- labels, of numbers and flags
by_labels : (s : DeclaredNames) (qs : List Expected) (t : Tok) → IsHeading (LabelLines ∷ qs) → Meets s qs t → Meets s (LabelLines ∷ qs) t
by_labels s qs t heading more =
    either (is_the_word (codes "num") t)
    (λ hit. goes s (number_label_expected (LabelLines ∷ qs)) heading (λ ps. ap (λ b. cond b (Next s (number_label_expected (LabelLines ∷ qs ++ ps))) (flags ps)) hit)
    (repeated_takes plan_forms starts labels number_rest (heading_parts qs) t (of_word (λ z. rests (plan_forms labels) z ≡ number_rest ∷ []) (codes "num") t hit refl) (heading.0 t hit)))
    (λ miss. by_line s (LabelLines ∷ qs) t (flag_expected (LabelLines ∷ qs)) qs (is_the_word (codes "flag") t) heading (λ ps. ap (λ b. cond b (Next s (number_label_expected (LabelLines ∷ qs ++ ps))) (flags ps)) miss)
    (λ hit. repeated_takes plan_forms starts labels flag_rest (heading_parts qs) t (of_word (λ z. rests (plan_forms labels) z ≡ flag_rest ∷ []) (codes "flag") t hit refl) (heading.1 t hit))
    (λ nor. skips_repeated labels (heading_parts qs) t (no_label miss nor)) more)
  where
    labels : PlanSymbol
    labels = shared Declared.LabelLine

    flags : List Expected → Step
    flags ps = cond (is_the_word (codes "flag") t) (Next s (flag_expected (LabelLines ∷ qs ++ ps))) (step s (qs ++ ps) t)

    no_label : is_the_word (codes "num") t ≡ false → is_the_word (codes "flag") t ≡ false → rests (plan_forms (shared Declared.LabelLine)) t ≡ []
    no_label miss nor = rw (miss, nor) refl

-- ---- each thing that is expected

pub meets : (s : DeclaredNames) (qs : List Expected) (t : Tok) → IsHeading qs → Meets s qs t
meets s [] t heading = leaves (λ ps. refl) (skips_none plans_form t)
meets s (TheWord w ∷ qs) t heading = by_test s (TheWord w ∷ qs) t qs (is_the_word w t) heading (λ ps. refl) (one_takes plan_forms (is_the_word w) (heading_parts qs) t) (one_bars plan_forms (is_the_word w) (heading_parts qs) t)
meets s (TheMark m ∷ qs) t heading = by_test s (TheMark m ∷ qs) t qs (is_the_mark m t) heading (λ ps. refl) (one_takes plan_forms (is_the_mark m) (heading_parts qs) t) (one_bars plan_forms (is_the_mark m) (heading_parts qs) t)
meets s (TheVersion ∷ qs) t heading = by_test s (TheVersion ∷ qs) t qs (is_version t) heading (λ ps. refl) (one_takes plan_forms is_version (heading_parts qs) t) (one_bars plan_forms is_version (heading_parts qs) t)
meets s (IntegerAt most ∷ qs) t heading = by_token s (IntegerAt most ∷ qs) t is_integer (heading_parts qs) (λ n. s) (λ n. qs) (integer_at most t) refl (integer_formed most t) (λ n. heading) (λ n. refl) (λ ps. refl)
meets s (AmountsAt One ∷ []) t heading =
    by_token s (AmountsAt One ∷ []) t is_integer (heading_parts (TheMark (codes ";") ∷ line_expected One 0 [])) (λ k. s) (λ k. TheMark (codes ";") ∷ line_expected One k []) (integer_at 12 t) refl (integer_formed 12 t) (λ k. lines_decided k) (λ k. refl) (λ ps. refl)
meets s (AmountsAt One ∷ p ∷ qs) t heading = absurd heading
meets s (AmountsAt Two ∷ qs) t heading = absurd heading
meets s (OriginDate ∷ qs) t heading = by_token s (OriginDate ∷ qs) t is_date (heading_parts qs) (λ day. s) (λ day. qs) (origin_at t) refl (origin_formed t) (λ day. heading) (λ day. refl) (λ ps. refl)
meets s (OriginLine ∷ qs) t heading =
    by_optional s OriginLine (OriginDate ∷ TheMark (codes ";") ∷ qs) qs t Declared.OriginLine (is_the_word (codes "origin")) (a_date ∷ the_mark (codes ";") ∷ []) refl refl refl (heading.0 t) heading.1 (λ ps. refl) (meets s qs t heading.1)
meets s (StartLine ∷ qs) t heading =
    by_optional s StartLine (IntegerAt 1_000_000 ∷ TheMark (codes ";") ∷ qs) qs t Declared.StartLine (is_the_word (codes "start")) (an_integer ∷ the_mark (codes ";") ∷ []) refl refl refl (heading.0 t) heading.1 (λ ps. refl) (meets s qs t heading.1)
meets s (NameLines w Party ∷ qs) t heading =
    let ends : Ends (codes "party") qs = subst (λ v. Ends v qs) heading.0 heading.1 in
    subst (λ v. Meets s (NameLines v Party ∷ qs) t) (sym heading.0)
    (by_lines s (NameLines (codes "party") Party) (NewIn Party ∷ MoreNames Party ∷ NameLines (codes "party") Party ∷ qs) qs t Declared.PartyLine (is_the_word (codes "party")) (names_rest Declared.FurtherName) refl refl refl (ends t)
    (refl, ends, heading.2) (λ ps. refl) (meets s qs t heading.2))
meets s (AssetLines One k ∷ qs) t heading =
    by_lines s (AssetLines One k) (asset_expected One k true (AssetLines One k ∷ qs)) qs t (Declared.AssetLine One) (is_the_word (codes "asset")) (names_rest (Declared.FurtherAsset One)) refl refl refl (heading.0 t) heading (λ ps. refl) (meets s qs t heading.1)
meets s (LabelLines ∷ qs) t heading = by_labels s qs t heading (meets s qs t heading.2)
meets s (TemplateLines ∷ qs) t heading =
    by_lines s TemplateLines (template_expected (TemplateLines ∷ qs)) qs t Declared.TemplateLine (is_the_word (codes "template")) template_rest refl refl refl (heading.0 t) heading (λ ps. refl) (meets s qs t heading.1)
meets s (NewIn set ∷ qs) t heading =
    by_token s (NewIn set ∷ qs) t is_name (heading_parts qs) (λ name. with_names set (names_of set s ++ name ∷ []) s) (λ name. qs) (new_at (names_of set s) t) refl (new_formed (names_of set s) t) (λ name. heading) (λ name. refl) (λ ps. refl)
meets s (MoreNames set ∷ qs) t heading =
    by_separator s (MoreNames set) qs (NewIn set ∷ MoreNames set ∷ qs) t Declared.FurtherName (a_name ∷ []) (λ comma ps. list_expected set comma ps) heading heading refl refl refl (λ ps. refl) (λ ps. refl) (λ ps. refl)
meets s (DecimalsAt One k ∷ qs) t heading = over s (DecimalsAt One k ∷ qs) t qs (skips_none (heading_parts qs) t) (λ ps. refl) (meets s qs t heading)
meets s (MoreAssets One k ∷ qs) t heading =
    by_separator s (MoreAssets One k) qs (asset_expected One k true qs) t (Declared.FurtherAsset One) (a_name ∷ []) (λ comma ps. asset_expected One k comma ps) heading heading refl refl refl (λ ps. refl) (λ ps. refl) (λ ps. refl)
meets s (ScaleAt ∷ qs) t heading =
    by_token s (ScaleAt ∷ qs) t is_integer (heading_parts (range_expected 0 qs)) (λ scale. s) (λ scale. range_expected scale qs) (integer_at 18 t) refl (integer_formed 18 t) (λ scale. heading) (λ scale. refl) (λ ps. refl)
meets s (BoundAt scale None ∷ qs) t heading =
    by_sign s qs scale None (the_mark (codes "..") ∷ a_bound ∷ heading_parts qs) t (λ m. bound_expected scale None m qs) heading (λ m. heading) refl refl (λ m. refl) (λ m ps. refl)
meets s (BoundAt scale (Some low) ∷ qs) t heading =
    by_sign s qs scale (Some low) (heading_parts qs) t (λ m. qs) heading (λ m. heading) refl refl (λ m. refl) (λ m ps. refl)
meets s (BoundNumber negative scale None ∷ qs) t heading =
    by_token s (BoundNumber negative scale None ∷ qs) t is_number (the_mark (codes "..") ∷ a_bound ∷ heading_parts qs) (λ m. s) (λ m. bound_expected scale None m qs) (bound_at negative scale None t) refl (bound_formed negative scale None t) (λ m. heading) (λ m. refl) (λ ps. refl)
meets s (BoundNumber negative scale (Some low) ∷ qs) t heading =
    by_token s (BoundNumber negative scale (Some low) ∷ qs) t is_number (heading_parts qs) (λ m. s) (λ m. qs) (bound_at negative scale (Some low) t) refl (bound_formed negative scale (Some low) t) (λ m. heading) (λ m. refl) (λ ps. refl)
meets s (_ ∷ qs) t heading = absurd heading
