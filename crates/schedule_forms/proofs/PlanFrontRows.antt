-- Small schedule files are walked through token by token, by the grammar alone.
use Rattle.std.proofs.Common.{◌≡◌, Bool, true, false, cond, ◌&&◌, List, [], ◌∷◌, ◌++◌, refl, sym, ap, subst, append-nil}
use Rattle.std.specs.Prelude.{ℕ, codes}
use Rattle.term_model.specs.Dates.{parts_of, two_of}
use Rattle.contract_grammar.specs.Tokens.{Tok, extent_at, next_lexeme, tokens, tokens_from}
use Rattle.contract_parse.specs.Forms.{Terminal, Nonterminal, Optional, Repeated, Form, Whole, done, Front, empty}
use Rattle.contract_parse.specs.FrontRows.{at_left}
use Rattle.contract_grammar.specs.declared.token.LexemeKind.TheVariants.{Word, Number, Mark, End}
use Rattle.contract_grammar.proofs.EntryFacts.{and_parts}
use Rattle.contract_parse.proofs.FrontTakes.{Takes, barred, bars, is_nil, nil_is, one_takes, optional_takes, repeated_takes, rests, symbol_takes}
use Rattle.schedule_forms.specs.PlanFronts.{IsPlanFront, IsWholePlanFile, PlanSymbol, plan_file_form, plan_forms}
use Rattle.schedule_forms.specs.PlanFrontRows.{EndsPlanAt, PlanFrontRows, begun, leg, three_lines}
use Rattle.schedule_forms.proofs.PlanFrontChoices.{skips_optional, skips_repeated, skips_takes, starts}

abbrev first_rest : List (Form PlanSymbol) → Form PlanSymbol
first_rest [] = []
first_rest (f ∷ fs) = f

abbrev is_single : List (Form PlanSymbol) → Bool
is_single [] = false
is_single (f ∷ fs) = is_nil fs

single : (fs : List (Form PlanSymbol)) → is_single fs ≡ true → fs ≡ first_rest fs ∷ []
single [] e = absurd cc
single (f ∷ fs) e = ap (λ l. f ∷ l) (nil_is fs e)

-- what may stand behind the token, and a test that it is decided
abbrev next_parts : Form PlanSymbol → Tok → Form PlanSymbol
next_parts [] t = []
next_parts (Terminal test ∷ parts) t = parts
next_parts (Nonterminal symbol ∷ parts) t = first_rest (rests (plan_forms symbol) t) ++ parts
next_parts (Optional symbol ∷ parts) t = cond (is_nil (rests (plan_forms symbol) t)) (next_parts parts t) (first_rest (rests (plan_forms symbol) t) ++ parts)
next_parts (Repeated symbol ∷ parts) t = cond (is_nil (rests (plan_forms symbol) t)) (next_parts parts t) (first_rest (rests (plan_forms symbol) t) ++ Repeated symbol ∷ parts)

abbrev is_clear : Form PlanSymbol → Tok → Bool
is_clear [] t = false
is_clear (Terminal test ∷ parts) t = test t
is_clear (Nonterminal symbol ∷ parts) t = is_single (rests (plan_forms symbol) t)
is_clear (Optional symbol ∷ parts) t = cond (is_nil (rests (plan_forms symbol) t)) (is_clear parts t) (is_single (rests (plan_forms symbol) t) && barred plan_forms parts t)
is_clear (Repeated symbol ∷ parts) t = cond (is_nil (rests (plan_forms symbol) t)) (is_clear parts t) (is_single (rests (plan_forms symbol) t) && barred plan_forms parts t)

abbrev left_of : Form PlanSymbol → List Tok → Form PlanSymbol
left_of parts [] = parts
left_of parts (t ∷ ts) = left_of (next_parts parts t) ts

abbrev are_clear : Form PlanSymbol → List Tok → Bool
are_clear parts [] = true
are_clear parts (t ∷ ts) = is_clear parts t && are_clear (next_parts parts t) ts

takes : (parts : Form PlanSymbol) (t : Tok) → is_clear parts t ≡ true → Takes plan_forms parts t (next_parts parts t)
takes [] t e = absurd cc
takes (Terminal test ∷ parts) t e = one_takes plan_forms test parts t e
takes (Nonterminal symbol ∷ parts) t e = symbol_takes plan_forms starts symbol (first_rest (rests (plan_forms symbol) t)) parts t (single (rests (plan_forms symbol) t) e)
takes (Optional symbol ∷ parts) t e = go (is_nil (rests (plan_forms symbol) t)) refl e (λ f. takes parts t f)
  where
    go : (b : Bool) → is_nil (rests (plan_forms symbol) t) ≡ b → cond b (is_clear parts t) (is_single (rests (plan_forms symbol) t) && barred plan_forms parts t) ≡ true → (is_clear parts t ≡ true → Takes plan_forms parts t (next_parts parts t))
        → Takes plan_forms (Optional symbol ∷ parts) t (cond b (next_parts parts t) (first_rest (rests (plan_forms symbol) t) ++ parts))
    go true is f next = skips_takes (Optional symbol ∷ parts) parts (next_parts parts t) t (skips_optional symbol parts t (nil_is (rests (plan_forms symbol) t) is)) (next f)
    go false is f next =
        let p = and_parts (is_single (rests (plan_forms symbol) t)) (barred plan_forms parts t) f in
        optional_takes plan_forms starts symbol (first_rest (rests (plan_forms symbol) t)) parts t (single (rests (plan_forms symbol) t) p.0) (bars plan_forms starts parts t p.1)
takes (Repeated symbol ∷ parts) t e = go (is_nil (rests (plan_forms symbol) t)) refl e (λ f. takes parts t f)
  where
    go : (b : Bool) → is_nil (rests (plan_forms symbol) t) ≡ b → cond b (is_clear parts t) (is_single (rests (plan_forms symbol) t) && barred plan_forms parts t) ≡ true → (is_clear parts t ≡ true → Takes plan_forms parts t (next_parts parts t))
        → Takes plan_forms (Repeated symbol ∷ parts) t (cond b (next_parts parts t) (first_rest (rests (plan_forms symbol) t) ++ Repeated symbol ∷ parts))
    go true is f next = skips_takes (Repeated symbol ∷ parts) parts (next_parts parts t) t (skips_repeated symbol parts t (nil_is (rests (plan_forms symbol) t) is)) (next f)
    go false is f next =
        let p = and_parts (is_single (rests (plan_forms symbol) t)) (barred plan_forms parts t) f in
        repeated_takes plan_forms starts symbol (first_rest (rests (plan_forms symbol) t)) parts t (single (rests (plan_forms symbol) t) p.0) (bars plan_forms starts parts t p.1)

walked_on : (ts us : List Tok) (parts : Form PlanSymbol) → are_clear parts ts ≡ true → Front plan_forms parts (ts ++ us) → Front plan_forms (left_of parts ts) us
walked_on [] us parts e x = x
walked_on (t ∷ ts) us parts e x =
    let p = and_parts (is_clear parts t) (are_clear (next_parts parts t) ts) e in
    walked_on ts us (next_parts parts t) p.1 ((takes parts t p.0).on (ts ++ us) x)

walked_back : (ts us : List Tok) (parts : Form PlanSymbol) → are_clear parts ts ≡ true → Front plan_forms (left_of parts ts) us → Front plan_forms parts (ts ++ us)
walked_back [] us parts e x = x
walked_back (t ∷ ts) us parts e x =
    let p = and_parts (is_clear parts t) (are_clear (next_parts parts t) ts) e in
    (takes parts t p.0).back (ts ++ us) (walked_back ts us (next_parts parts t) p.1 x)

walked_all : (ts us rest : List Tok) (parts : Form PlanSymbol) → are_clear parts ts ≡ true → Whole plan_forms (left_of parts ts) us rest → Whole plan_forms parts (ts ++ us) rest
walked_all [] us rest parts e w = w
walked_all (t ∷ ts) us rest parts e w =
    let p = and_parts (is_clear parts t) (are_clear (next_parts parts t) ts) e in
    (takes parts t p.0).whole (ts ++ us) rest (walked_all ts us rest (next_parts parts t) p.1 w)

ends_at : (bytes : List ℕ) (before after : List Tok) (t : Tok) → tokens bytes ≡ before ++ t ∷ after → are_clear plan_file_form before ≡ true → barred plan_forms (left_of plan_file_form before) t ≡ true → EndsPlanAt bytes t
ends_at bytes before after t are e f = record {
  before = before;
  after = after;
  are = are;
  front = subst (λ ts. IsPlanFront ts) (append-nil before) (walked_back before [] plan_file_form e empty);
  none = λ x. bars plan_forms starts (left_of plan_file_form before) t f [] (walked_on before (t ∷ []) plan_file_form e x);
}

walked_whole : (ts : List Tok) → are_clear plan_file_form ts ≡ true → left_of plan_file_form ts ≡ [] → IsWholePlanFile ts
walked_whole ts e f = subst (λ us. IsWholePlanFile us) (append-nil ts) (walked_all ts [] [] plan_file_form e (subst (λ parts. Whole plan_forms parts [] []) (sym f) done))

-- ---- the texts

abbrev other_version_before : List Tok
other_version_before = at_left Word (codes "schedules") 12 ∷ []

other_version_are : tokens (codes "schedules 2;") ≡ other_version_before ++ at_left Number (codes "2") 2 ∷ (at_left Mark (codes ";") 1 ∷ at_left End [] 0 ∷ [])
unfolding tokens tokens_from next_lexeme extent_at parts_of two_of
other_version_are = refl

abbrev portfolio_as_schedules_before : List Tok
portfolio_as_schedules_before = []

portfolio_as_schedules_are : tokens (codes "portfolio 1;") ≡ portfolio_as_schedules_before ++ at_left Word (codes "portfolio") 12 ∷ (at_left Number (codes "1") 2 ∷ at_left Mark (codes ";") 1 ∷ at_left End [] 0 ∷ [])
unfolding tokens tokens_from next_lexeme extent_at parts_of two_of
portfolio_as_schedules_are = refl

abbrev decimals_of_asset_before : List Tok
decimals_of_asset_before = at_left Word (codes "schedules") 35 ∷ at_left Number (codes "1") 25 ∷ at_left Mark (codes ";") 24 ∷ at_left Word (codes "amounts") 22 ∷ at_left Number (codes "2") 14 ∷ at_left Mark (codes ";") 13 ∷ at_left Word (codes "asset") 11 ∷ at_left Word (codes "E") 5 ∷ []

decimals_of_asset_are : tokens (begun ++ codes "asset E : 2") ≡ decimals_of_asset_before ++ at_left Mark (codes ":") 3 ∷ (at_left Number (codes "2") 1 ∷ at_left End [] 0 ∷ [])
unfolding tokens tokens_from next_lexeme extent_at parts_of two_of
decimals_of_asset_are = refl

abbrev late_party_before : List Tok
late_party_before = at_left Word (codes "schedules") 47 ∷ at_left Number (codes "1") 37 ∷ at_left Mark (codes ";") 36 ∷ at_left Word (codes "amounts") 34 ∷ at_left Number (codes "2") 26 ∷ at_left Mark (codes ";") 25 ∷ at_left Word (codes "start") 23 ∷ at_left Number (codes "1") 17 ∷ at_left Mark (codes ";") 16 ∷ at_left Word (codes "asset") 14 ∷ at_left Word (codes "E") 8 ∷ at_left Mark (codes ";") 7 ∷ []

late_party_are : tokens (begun ++ codes "start 1; asset E; party") ≡ late_party_before ++ at_left Word (codes "party") 5 ∷ (at_left End [] 0 ∷ [])
unfolding tokens tokens_from next_lexeme extent_at parts_of two_of
late_party_are = refl

abbrev party_behind_plan_before : List Tok
party_behind_plan_before = at_left Word (codes "schedules") 86 ∷ at_left Number (codes "1") 76 ∷ at_left Mark (codes ";") 75 ∷ at_left Word (codes "amounts") 73 ∷ at_left Number (codes "2") 65 ∷ at_left Mark (codes ";") 64 ∷ at_left Word (codes "leg") 62 ∷ at_left Word (codes "x") 58 ∷ at_left Mark (codes "=") 56 ∷ at_left Number (codes "1.50") 54 ∷ at_left Word (codes "of") 49 ∷ at_left Word (codes "E") 46 ∷ at_left Word (codes "from") 44 ∷ at_left Word (codes "A") 39 ∷ at_left Word (codes "to") 37 ∷ at_left Word (codes "B") 34 ∷ at_left Word (codes "first") 32 ∷ at_left Number (codes "10") 26 ∷ at_left Word (codes "every") 23 ∷ at_left Number (codes "10") 17 ∷ at_left Word (codes "times") 14 ∷ at_left Number (codes "3") 8 ∷ at_left Mark (codes ";") 7 ∷ []

party_behind_plan_are : tokens (begun ++ codes "leg x = " ++ leg ++ codes "; party") ≡ party_behind_plan_before ++ at_left Word (codes "party") 5 ∷ (at_left End [] 0 ∷ [])
unfolding tokens tokens_from next_lexeme extent_at parts_of two_of
party_behind_plan_are = refl

abbrev contract_line_before : List Tok
contract_line_before = at_left Word (codes "schedules") 32 ∷ at_left Number (codes "1") 22 ∷ at_left Mark (codes ";") 21 ∷ at_left Word (codes "amounts") 19 ∷ at_left Number (codes "2") 11 ∷ at_left Mark (codes ";") 10 ∷ []

contract_line_are : tokens (begun ++ codes "contract") ≡ contract_line_before ++ at_left Word (codes "contract") 8 ∷ (at_left End [] 0 ∷ [])
unfolding tokens tokens_from next_lexeme extent_at parts_of two_of
contract_line_are = refl

abbrev no_semicolon_before : List Tok
no_semicolon_before = at_left Word (codes "schedules") 79 ∷ at_left Number (codes "1") 69 ∷ at_left Mark (codes ";") 68 ∷ at_left Word (codes "amounts") 66 ∷ at_left Number (codes "2") 58 ∷ at_left Mark (codes ";") 57 ∷ at_left Word (codes "leg") 55 ∷ at_left Word (codes "x") 51 ∷ at_left Mark (codes "=") 49 ∷ at_left Number (codes "1.50") 47 ∷ at_left Word (codes "of") 42 ∷ at_left Word (codes "E") 39 ∷ at_left Word (codes "from") 37 ∷ at_left Word (codes "A") 32 ∷ at_left Word (codes "to") 30 ∷ at_left Word (codes "B") 27 ∷ at_left Word (codes "first") 25 ∷ at_left Number (codes "10") 19 ∷ at_left Word (codes "every") 16 ∷ at_left Number (codes "10") 10 ∷ at_left Word (codes "times") 7 ∷ at_left Number (codes "3") 1 ∷ []

no_semicolon_are : tokens (begun ++ codes "leg x = " ++ leg) ≡ no_semicolon_before ++ at_left End [] 0 ∷ ([])
unfolding tokens tokens_from next_lexeme extent_at parts_of two_of
no_semicolon_are = refl

abbrev cut_word_before : List Tok
cut_word_before = at_left Word (codes "schedules") 26 ∷ at_left Number (codes "1") 16 ∷ at_left Mark (codes ";") 15 ∷ at_left Word (codes "amounts") 13 ∷ at_left Number (codes "2") 5 ∷ at_left Mark (codes ";") 4 ∷ []

cut_word_are : tokens (begun ++ codes "le") ≡ cut_word_before ++ at_left Word (codes "le") 2 ∷ (at_left End [] 0 ∷ [])
unfolding tokens tokens_from next_lexeme extent_at parts_of two_of
cut_word_are = refl

abbrev word_as_size_before : List Tok
word_as_size_before = at_left Word (codes "schedules") 34 ∷ at_left Number (codes "1") 24 ∷ at_left Mark (codes ";") 23 ∷ at_left Word (codes "amounts") 21 ∷ at_left Number (codes "2") 13 ∷ at_left Mark (codes ";") 12 ∷ at_left Word (codes "leg") 10 ∷ at_left Word (codes "x") 6 ∷ at_left Mark (codes "=") 4 ∷ []

word_as_size_are : tokens (begun ++ codes "leg x = of") ≡ word_as_size_before ++ at_left Word (codes "of") 2 ∷ (at_left End [] 0 ∷ [])
unfolding tokens tokens_from next_lexeme extent_at parts_of two_of
word_as_size_are = refl

abbrev obs_in_size_before : List Tok
obs_in_size_before = at_left Word (codes "schedules") 51 ∷ at_left Number (codes "1") 41 ∷ at_left Mark (codes ";") 40 ∷ at_left Word (codes "amounts") 38 ∷ at_left Number (codes "2") 30 ∷ at_left Mark (codes ";") 29 ∷ at_left Word (codes "leg") 27 ∷ at_left Word (codes "x") 23 ∷ at_left Mark (codes "=") 21 ∷ at_left Word (codes "round") 19 ∷ at_left Mark (codes "(") 14 ∷ at_left Word (codes "floor") 13 ∷ at_left Mark (codes ",") 8 ∷ at_left Number (codes "2") 6 ∷ at_left Mark (codes ",") 5 ∷ []

obs_in_size_are : tokens (begun ++ codes "leg x = round(floor, 2, obs") ≡ obs_in_size_before ++ at_left Word (codes "obs") 3 ∷ (at_left End [] 0 ∷ [])
unfolding tokens tokens_from next_lexeme extent_at parts_of two_of
obs_in_size_are = refl

abbrev signed_day_before : List Tok
signed_day_before = at_left Word (codes "schedules") 58 ∷ at_left Number (codes "1") 48 ∷ at_left Mark (codes ";") 47 ∷ at_left Word (codes "amounts") 45 ∷ at_left Number (codes "2") 37 ∷ at_left Mark (codes ";") 36 ∷ at_left Word (codes "leg") 34 ∷ at_left Word (codes "x") 30 ∷ at_left Mark (codes "=") 28 ∷ at_left Number (codes "1") 26 ∷ at_left Word (codes "of") 24 ∷ at_left Word (codes "E") 21 ∷ at_left Word (codes "from") 19 ∷ at_left Word (codes "A") 14 ∷ at_left Word (codes "to") 12 ∷ at_left Word (codes "B") 9 ∷ at_left Word (codes "first") 7 ∷ []

signed_day_are : tokens (begun ++ codes "leg x = 1 of E from A to B first -") ≡ signed_day_before ++ at_left Mark (codes "-") 1 ∷ (at_left End [] 0 ∷ [])
unfolding tokens tokens_from next_lexeme extent_at parts_of two_of
signed_day_are = refl

abbrev pointed_every_before : List Tok
pointed_every_before = at_left Word (codes "schedules") 68 ∷ at_left Number (codes "1") 58 ∷ at_left Mark (codes ";") 57 ∷ at_left Word (codes "amounts") 55 ∷ at_left Number (codes "2") 47 ∷ at_left Mark (codes ";") 46 ∷ at_left Word (codes "leg") 44 ∷ at_left Word (codes "x") 40 ∷ at_left Mark (codes "=") 38 ∷ at_left Number (codes "1") 36 ∷ at_left Word (codes "of") 34 ∷ at_left Word (codes "E") 31 ∷ at_left Word (codes "from") 29 ∷ at_left Word (codes "A") 24 ∷ at_left Word (codes "to") 22 ∷ at_left Word (codes "B") 19 ∷ at_left Word (codes "first") 17 ∷ at_left Number (codes "1") 11 ∷ at_left Word (codes "every") 9 ∷ []

pointed_every_are : tokens (begun ++ codes "leg x = 1 of E from A to B first 1 every 1.0") ≡ pointed_every_before ++ at_left Number (codes "1.0") 3 ∷ (at_left End [] 0 ∷ [])
unfolding tokens tokens_from next_lexeme extent_at parts_of two_of
pointed_every_are = refl

abbrev guard_of_leg_before : List Tok
guard_of_leg_before = at_left Word (codes "schedules") 85 ∷ at_left Number (codes "1") 75 ∷ at_left Mark (codes ";") 74 ∷ at_left Word (codes "amounts") 72 ∷ at_left Number (codes "2") 64 ∷ at_left Mark (codes ";") 63 ∷ at_left Word (codes "leg") 61 ∷ at_left Word (codes "x") 57 ∷ at_left Mark (codes "=") 55 ∷ at_left Number (codes "1.50") 53 ∷ at_left Word (codes "of") 48 ∷ at_left Word (codes "E") 45 ∷ at_left Word (codes "from") 43 ∷ at_left Word (codes "A") 38 ∷ at_left Word (codes "to") 36 ∷ at_left Word (codes "B") 33 ∷ at_left Word (codes "first") 31 ∷ at_left Number (codes "10") 25 ∷ at_left Word (codes "every") 22 ∷ at_left Number (codes "10") 16 ∷ at_left Word (codes "times") 13 ∷ at_left Number (codes "3") 7 ∷ []

guard_of_leg_are : tokens (begun ++ codes "leg x = " ++ leg ++ codes " until") ≡ guard_of_leg_before ++ at_left Word (codes "until") 5 ∷ (at_left End [] 0 ∷ [])
unfolding tokens tokens_from next_lexeme extent_at parts_of two_of
guard_of_leg_are = refl

abbrev swap_of_one_before : List Tok
swap_of_one_before = at_left Word (codes "schedules") 81 ∷ at_left Number (codes "1") 71 ∷ at_left Mark (codes ";") 70 ∷ at_left Word (codes "amounts") 68 ∷ at_left Number (codes "2") 60 ∷ at_left Mark (codes ";") 59 ∷ at_left Word (codes "swap") 57 ∷ at_left Word (codes "x") 52 ∷ at_left Mark (codes "=") 50 ∷ at_left Number (codes "1.50") 48 ∷ at_left Word (codes "of") 43 ∷ at_left Word (codes "E") 40 ∷ at_left Word (codes "from") 38 ∷ at_left Word (codes "A") 33 ∷ at_left Word (codes "to") 31 ∷ at_left Word (codes "B") 28 ∷ at_left Word (codes "first") 26 ∷ at_left Number (codes "10") 20 ∷ at_left Word (codes "every") 17 ∷ at_left Number (codes "10") 11 ∷ at_left Word (codes "times") 8 ∷ at_left Number (codes "3") 2 ∷ []

swap_of_one_are : tokens (begun ++ codes "swap x = " ++ leg ++ codes ";") ≡ swap_of_one_before ++ at_left Mark (codes ";") 1 ∷ (at_left End [] 0 ∷ [])
unfolding tokens tokens_from next_lexeme extent_at parts_of two_of
swap_of_one_are = refl

abbrev no_cover_before : List Tok
no_cover_before = at_left Word (codes "schedules") 92 ∷ at_left Number (codes "1") 82 ∷ at_left Mark (codes ";") 81 ∷ at_left Word (codes "amounts") 79 ∷ at_left Number (codes "2") 71 ∷ at_left Mark (codes ";") 70 ∷ at_left Word (codes "guarded") 68 ∷ at_left Word (codes "x") 60 ∷ at_left Mark (codes "=") 58 ∷ at_left Number (codes "1.50") 56 ∷ at_left Word (codes "of") 51 ∷ at_left Word (codes "E") 48 ∷ at_left Word (codes "from") 46 ∷ at_left Word (codes "A") 41 ∷ at_left Word (codes "to") 39 ∷ at_left Word (codes "B") 36 ∷ at_left Word (codes "first") 34 ∷ at_left Number (codes "10") 28 ∷ at_left Word (codes "every") 25 ∷ at_left Number (codes "10") 19 ∷ at_left Word (codes "times") 16 ∷ at_left Number (codes "3") 10 ∷ at_left Word (codes "until") 8 ∷ at_left Word (codes "F") 2 ∷ []

no_cover_are : tokens (begun ++ codes "guarded x = " ++ leg ++ codes " until F;") ≡ no_cover_before ++ at_left Mark (codes ";") 1 ∷ (at_left End [] 0 ∷ [])
unfolding tokens tokens_from next_lexeme extent_at parts_of two_of
no_cover_are = refl

abbrev reserved_name_before : List Tok
reserved_name_before = at_left Word (codes "schedules") 30 ∷ at_left Number (codes "1") 20 ∷ at_left Mark (codes ";") 19 ∷ at_left Word (codes "amounts") 17 ∷ at_left Number (codes "2") 9 ∷ at_left Mark (codes ";") 8 ∷ at_left Word (codes "leg") 6 ∷ []

reserved_name_are : tokens (begun ++ codes "leg in") ≡ reserved_name_before ++ at_left Word (codes "in") 2 ∷ (at_left End [] 0 ∷ [])
unfolding tokens tokens_from next_lexeme extent_at parts_of two_of
reserved_name_are = refl

abbrev words_as_names_tokens : List Tok
words_as_names_tokens = at_left Word (codes "schedules") 82 ∷ at_left Number (codes "1") 72 ∷ at_left Mark (codes ";") 71 ∷ at_left Word (codes "amounts") 69 ∷ at_left Number (codes "2") 61 ∷ at_left Mark (codes ";") 60 ∷ at_left Word (codes "leg") 58 ∷ at_left Word (codes "leg") 54 ∷ at_left Mark (codes "=") 50 ∷ at_left Number (codes "1") 48 ∷ at_left Word (codes "of") 46 ∷ at_left Word (codes "of") 43 ∷ at_left Word (codes "from") 40 ∷ at_left Word (codes "from") 35 ∷ at_left Word (codes "to") 30 ∷ at_left Word (codes "to") 27 ∷ at_left Word (codes "first") 24 ∷ at_left Number (codes "1") 18 ∷ at_left Word (codes "every") 16 ∷ at_left Number (codes "1") 10 ∷ at_left Word (codes "times") 8 ∷ at_left Number (codes "1") 2 ∷ at_left Mark (codes ";") 1 ∷ at_left End [] 0 ∷ []

words_as_names_are : tokens (begun ++ codes "leg leg = 1 of of from from to to first 1 every 1 times 1;") ≡ words_as_names_tokens
unfolding tokens tokens_from next_lexeme extent_at parts_of two_of
words_as_names_are = refl

abbrev no_plans_tokens : List Tok
no_plans_tokens = at_left Word (codes "schedules") 37 ∷ at_left Number (codes "01") 27 ∷ at_left Mark (codes ";") 25 ∷ at_left Word (codes "amounts") 23 ∷ at_left Number (codes "99") 15 ∷ at_left Mark (codes ";") 13 ∷ at_left Word (codes "party") 11 ∷ at_left Word (codes "A") 5 ∷ at_left Mark (codes ",") 4 ∷ at_left Word (codes "A") 2 ∷ at_left Mark (codes ";") 1 ∷ at_left End [] 0 ∷ []

no_plans_are : tokens (codes "schedules 01; amounts 99; party A, A;") ≡ no_plans_tokens
unfolding tokens tokens_from next_lexeme extent_at parts_of two_of
no_plans_are = refl

abbrev three_plans_tokens : List Tok
three_plans_tokens = at_left Word (codes "schedules") 306 ∷ at_left Number (codes "1") 296 ∷ at_left Mark (codes ";") 295 ∷ at_left Word (codes "amounts") 293 ∷ at_left Number (codes "2") 285 ∷ at_left Mark (codes ";") 284 ∷ at_left Word (codes "leg") 282 ∷ at_left Word (codes "x") 278 ∷ at_left Mark (codes "=") 276 ∷ at_left Number (codes "1.50") 274 ∷ at_left Word (codes "of") 269 ∷ at_left Word (codes "E") 266 ∷ at_left Word (codes "from") 264 ∷ at_left Word (codes "A") 259 ∷ at_left Word (codes "to") 257 ∷ at_left Word (codes "B") 254 ∷ at_left Word (codes "first") 252 ∷ at_left Number (codes "10") 246 ∷ at_left Word (codes "every") 243 ∷ at_left Number (codes "10") 237 ∷ at_left Word (codes "times") 234 ∷ at_left Number (codes "3") 228 ∷ at_left Mark (codes ";") 227 ∷ at_left Word (codes "swap") 225 ∷ at_left Word (codes "x") 220 ∷ at_left Mark (codes "=") 218 ∷ at_left Word (codes "round") 216 ∷ at_left Mark (codes "(") 211 ∷ at_left Word (codes "ceil") 210 ∷ at_left Mark (codes ",") 206 ∷ at_left Number (codes "99") 204 ∷ at_left Mark (codes ",") 202 ∷ at_left Word (codes "E") 200 ∷ at_left Mark (codes ",") 199 ∷ at_left Number (codes "9999999") 197 ∷ at_left Mark (codes ",") 190 ∷ at_left Mark (codes "-") 188 ∷ at_left Number (codes "2.0") 187 ∷ at_left Mark (codes ")") 184 ∷ at_left Word (codes "of") 182 ∷ at_left Word (codes "E") 179 ∷ at_left Word (codes "from") 177 ∷ at_left Word (codes "A") 172 ∷ at_left Word (codes "to") 170 ∷ at_left Word (codes "A") 167 ∷ at_left Word (codes "first") 165 ∷ at_left Number (codes "9999999") 159 ∷ at_left Word (codes "every") 151 ∷ at_left Number (codes "0") 145 ∷ at_left Word (codes "times") 143 ∷ at_left Number (codes "0") 137 ∷ at_left Word (codes "against") 135 ∷ at_left Number (codes "1.50") 127 ∷ at_left Word (codes "of") 122 ∷ at_left Word (codes "E") 119 ∷ at_left Word (codes "from") 117 ∷ at_left Word (codes "A") 112 ∷ at_left Word (codes "to") 110 ∷ at_left Word (codes "B") 107 ∷ at_left Word (codes "first") 105 ∷ at_left Number (codes "10") 99 ∷ at_left Word (codes "every") 96 ∷ at_left Number (codes "10") 90 ∷ at_left Word (codes "times") 87 ∷ at_left Number (codes "3") 81 ∷ at_left Mark (codes ";") 80 ∷ at_left Word (codes "guarded") 78 ∷ at_left Word (codes "x") 70 ∷ at_left Mark (codes "=") 68 ∷ at_left Number (codes "1.50") 66 ∷ at_left Word (codes "of") 61 ∷ at_left Word (codes "E") 58 ∷ at_left Word (codes "from") 56 ∷ at_left Word (codes "A") 51 ∷ at_left Word (codes "to") 49 ∷ at_left Word (codes "B") 46 ∷ at_left Word (codes "first") 44 ∷ at_left Number (codes "10") 38 ∷ at_left Word (codes "every") 35 ∷ at_left Number (codes "10") 29 ∷ at_left Word (codes "times") 26 ∷ at_left Number (codes "3") 20 ∷ at_left Word (codes "until") 18 ∷ at_left Word (codes "F") 12 ∷ at_left Word (codes "covers") 10 ∷ at_left Mark (codes "-") 3 ∷ at_left Number (codes "1") 2 ∷ at_left Mark (codes ";") 1 ∷ at_left End [] 0 ∷ []

three_plans_are : tokens (begun ++ three_lines) ≡ three_plans_tokens
unfolding tokens tokens_from next_lexeme extent_at parts_of two_of
three_plans_are = refl

pub plan_front_rows : PlanFrontRows
plan_front_rows = record {
  other_version = ends_at (codes "schedules 2;") other_version_before (at_left Mark (codes ";") 1 ∷ at_left End [] 0 ∷ []) (at_left Number (codes "2") 2) other_version_are refl refl;
  portfolio_as_schedules = ends_at (codes "portfolio 1;") portfolio_as_schedules_before (at_left Number (codes "1") 2 ∷ at_left Mark (codes ";") 1 ∷ at_left End [] 0 ∷ []) (at_left Word (codes "portfolio") 12) portfolio_as_schedules_are refl refl;
  decimals_of_asset = ends_at (begun ++ codes "asset E : 2") decimals_of_asset_before (at_left Number (codes "2") 1 ∷ at_left End [] 0 ∷ []) (at_left Mark (codes ":") 3) decimals_of_asset_are refl refl;
  late_party = ends_at (begun ++ codes "start 1; asset E; party") late_party_before (at_left End [] 0 ∷ []) (at_left Word (codes "party") 5) late_party_are refl refl;
  party_behind_plan = ends_at (begun ++ codes "leg x = " ++ leg ++ codes "; party") party_behind_plan_before (at_left End [] 0 ∷ []) (at_left Word (codes "party") 5) party_behind_plan_are refl refl;
  contract_line = ends_at (begun ++ codes "contract") contract_line_before (at_left End [] 0 ∷ []) (at_left Word (codes "contract") 8) contract_line_are refl refl;
  no_semicolon = ends_at (begun ++ codes "leg x = " ++ leg) no_semicolon_before ([]) (at_left End [] 0) no_semicolon_are refl refl;
  cut_word = ends_at (begun ++ codes "le") cut_word_before (at_left End [] 0 ∷ []) (at_left Word (codes "le") 2) cut_word_are refl refl;
  word_as_size = ends_at (begun ++ codes "leg x = of") word_as_size_before (at_left End [] 0 ∷ []) (at_left Word (codes "of") 2) word_as_size_are refl refl;
  obs_in_size = ends_at (begun ++ codes "leg x = round(floor, 2, obs") obs_in_size_before (at_left End [] 0 ∷ []) (at_left Word (codes "obs") 3) obs_in_size_are refl refl;
  signed_day = ends_at (begun ++ codes "leg x = 1 of E from A to B first -") signed_day_before (at_left End [] 0 ∷ []) (at_left Mark (codes "-") 1) signed_day_are refl refl;
  pointed_every = ends_at (begun ++ codes "leg x = 1 of E from A to B first 1 every 1.0") pointed_every_before (at_left End [] 0 ∷ []) (at_left Number (codes "1.0") 3) pointed_every_are refl refl;
  guard_of_leg = ends_at (begun ++ codes "leg x = " ++ leg ++ codes " until") guard_of_leg_before (at_left End [] 0 ∷ []) (at_left Word (codes "until") 5) guard_of_leg_are refl refl;
  swap_of_one = ends_at (begun ++ codes "swap x = " ++ leg ++ codes ";") swap_of_one_before (at_left End [] 0 ∷ []) (at_left Mark (codes ";") 1) swap_of_one_are refl refl;
  no_cover = ends_at (begun ++ codes "guarded x = " ++ leg ++ codes " until F;") no_cover_before (at_left End [] 0 ∷ []) (at_left Mark (codes ";") 1) no_cover_are refl refl;
  reserved_name = ends_at (begun ++ codes "leg in") reserved_name_before (at_left End [] 0 ∷ []) (at_left Word (codes "in") 2) reserved_name_are refl refl;
  words_as_names = subst (λ ts. IsWholePlanFile ts) (sym words_as_names_are) (walked_whole words_as_names_tokens refl refl);
  no_plans = subst (λ ts. IsWholePlanFile ts) (sym no_plans_are) (walked_whole no_plans_tokens refl refl);
  three_plans = subst (λ ts. IsWholePlanFile ts) (sym three_plans_are) (walked_whole three_plans_tokens refl refl);
}
