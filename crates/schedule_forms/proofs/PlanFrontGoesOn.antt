-- A front of schedule files goes on to a whole, and what goes on to a whole is a front.
use Rattle.std.proofs.Common.{◌≡◌, Bool, true, ◌&&◌, List, [], ◌∷◌, ◌++◌, refl, subst, append-nil, map}
use Rattle.std.specs.Prelude.{codes}
use Rattle.std.specs.List.{list_all, list_any}
use Rattle.contract_grammar.specs.Tokens.{Tok}
use Rattle.contract_grammar.specs.Words.{Bytes, reserved}
use Rattle.contract_grammar.specs.Versions.{One, Two}
use Rattle.contract_parse.specs.Forms.{Form, Terminal, Nonterminal, Optional, Repeated, here, later, done, token, form, absent, enough}
use Rattle.contract_parse.specs.Fronts.{Declaration, Declared, Versioned, ContractLine, Contract, Amount, Expression, SignedInteger, FurtherTemplate, FurtherItem}
use Rattle.contract_grammar.specs.declared.terms.Language.{Language}
use Rattle.contract_grammar.specs.declared.token.LexemeKind.{LexemeKind}
use Rattle.contract_grammar.specs.declared.token.LexemeKind.TheVariants as kind
use Rattle.contract_parse.proofs.FrontGoesOn.{Made, front_goes_on, whole_front}
use Rattle.schedule_forms.specs.PlanFronts.{IsWholePlanFile, PlanSymbol, Shared, PlanLine, PlanSize, SignedNumber, plan_file_form, plan_forms}
use Rattle.schedule_forms.specs.PlanFrontLaws.{PlanFrontsGoOn}

abbrev sample : LexemeKind → Bytes → Tok
sample kind text = record { kind = kind; text = text; left = 0 }

abbrev a_word : Bytes → Tok
a_word w = sample kind.Word w

abbrev a_mark : Bytes → Tok
a_mark m = sample kind.Mark m

abbrev x : Tok
x = a_word (codes "x")

abbrev one : Tok
one = sample kind.Number (codes "1")

abbrev stop : Tok
stop = a_mark (codes ";")

abbrev marks : List Bytes
marks = codes ";" ∷ codes "," ∷ codes ":" ∷ codes "=" ∷ codes "(" ∷ codes ")" ∷ codes "+" ∷ codes "-" ∷ codes ".." ∷ []

abbrev words : List Bytes
words =
    codes "schedules" ∷ codes "leg" ∷ codes "swap" ∷ codes "guarded" ∷ codes "of" ∷ codes "from" ∷ codes "to" ∷ codes "first" ∷ codes "every" ∷ codes "times" ∷ codes "against" ∷ codes "until" ∷ codes "covers" ∷ reserved

-- a token for each form of one
abbrev samples : List Tok
samples =
    x ∷ one ∷ sample kind.Number (codes "2") ∷ sample kind.Date [] ∷ sample kind.End [] ∷ map (λ w. a_word w) words ++ map (λ m. a_mark m) marks

-- a line of one leg, behind its word
abbrev leg_tokens : List Tok
leg_tokens =
    a_word (codes "leg") ∷ x ∷ a_mark (codes "=") ∷ one ∷ a_word (codes "of") ∷ x ∷ a_word (codes "from") ∷ x ∷ a_word (codes "to") ∷ x ∷ a_word (codes "first") ∷ one ∷ a_word (codes "every") ∷ one ∷ a_word (codes "times") ∷ one ∷ stop ∷ []

all_made : (symbol : PlanSymbol) → Made plan_forms (Nonterminal symbol ∷ [])
all_made (Shared (Declaration Declared.OriginLine)) = record { tokens = a_word (codes "origin") ∷ sample kind.Date [] ∷ stop ∷ []; whole = λ rest. form here (token refl (token refl (token refl done))) done }
all_made (Shared (Declaration Declared.StartLine)) = record { tokens = a_word (codes "start") ∷ one ∷ stop ∷ []; whole = λ rest. form here (token refl (token refl (token refl done))) done }
all_made (Shared (Declaration Declared.PartyLine)) = record { tokens = a_word (codes "party") ∷ x ∷ stop ∷ []; whole = λ rest. form here (token refl (token refl (enough (token refl done)))) done }
all_made (Shared (Declaration (Declared.AssetLine One))) = record { tokens = a_word (codes "asset") ∷ x ∷ stop ∷ []; whole = λ rest. form here (token refl (token refl (enough (token refl done)))) done }
all_made (Shared (Declaration (Declared.AssetLine Two))) = record { tokens = a_word (codes "asset") ∷ x ∷ stop ∷ []; whole = λ rest. form here (token refl (token refl (absent (enough (token refl done))))) done }
all_made (Shared (Declaration Declared.FurtherName)) = record { tokens = a_mark (codes ",") ∷ x ∷ []; whole = λ rest. form here (token refl (token refl done)) done }
all_made (Shared (Declaration (Declared.FurtherAsset One))) = record { tokens = a_mark (codes ",") ∷ x ∷ []; whole = λ rest. form here (token refl (token refl done)) done }
all_made (Shared (Declaration (Declared.FurtherAsset Two))) = record { tokens = a_mark (codes ",") ∷ x ∷ []; whole = λ rest. form here (token refl (token refl (absent done))) done }
all_made (Shared (Declaration Declared.Decimals)) = record { tokens = a_mark (codes ":") ∷ one ∷ []; whole = λ rest. form here (token refl (token refl done)) done }
all_made (Shared (Declaration Declared.LabelLine)) = record { tokens = a_word (codes "flag") ∷ x ∷ stop ∷ []; whole = λ rest. form (later here) (token refl (token refl (token refl done))) done }
all_made (Shared (Declaration Declared.Bound)) = record { tokens = one ∷ []; whole = λ rest. form here (token refl done) done }
all_made (Shared (Declaration Declared.TemplateLine)) = record { tokens = a_word (codes "template") ∷ x ∷ a_mark (codes "=") ∷ one ∷ stop ∷ []; whole = λ rest. form here (token refl (token refl (token refl (token refl (token refl done))))) done }
all_made (Shared Versioned) = record {
  tokens = one ∷ stop ∷ a_word (codes "amounts") ∷ one ∷ stop ∷ [];
  whole = λ rest. form here (token refl (token refl (token refl (token refl (token refl (absent (absent (enough (enough (enough (enough (enough done)))))))))))) done;
}
all_made (Shared (ContractLine v)) = record {
  tokens = a_word (codes "contract") ∷ x ∷ a_mark (codes "=") ∷ a_word (codes "zero") ∷ stop ∷ [];
  whole = λ rest. form here (token refl (token refl (token refl (form here (token refl done) (token refl done))))) done;
}
all_made (Shared (Contract v)) = record { tokens = a_word (codes "zero") ∷ []; whole = λ rest. form here (token refl done) done }
all_made (Shared Amount) = record { tokens = a_word (codes "none") ∷ []; whole = λ rest. form here (token refl done) done }
all_made (Shared (Expression l)) = record { tokens = one ∷ []; whole = λ rest. form here (token refl done) done }
all_made (Shared SignedInteger) = record { tokens = one ∷ []; whole = λ rest. form here (token refl done) done }
all_made (Shared FurtherTemplate) = record { tokens = a_mark (codes "+") ∷ x ∷ []; whole = λ rest. form here (token refl (token refl done)) done }
all_made (Shared FurtherItem) = record { tokens = a_mark (codes "+") ∷ one ∷ []; whole = λ rest. form here (token refl (token refl done)) done }
all_made PlanLine = record {
  tokens = leg_tokens;
  whole = λ rest. form here (token refl (token refl (token refl (form (later here) (token refl done)
      (token refl (token refl (token refl (token refl (token refl (token refl (token refl (token refl (token refl (token refl (token refl (token refl (token refl done))))))))))))))))) done;
}
all_made PlanSize = record { tokens = one ∷ []; whole = λ rest. form (later here) (token refl done) done }
all_made SignedNumber = record { tokens = one ∷ []; whole = λ rest. form here (token refl done) done }

-- each token that a form expects is met by one of the samples
abbrev is_met : Form PlanSymbol → Bool
is_met [] = true
is_met (Terminal test ∷ parts) = list_any test samples && is_met parts
is_met (Nonterminal symbol ∷ parts) = is_met parts
is_met (Optional symbol ∷ parts) = is_met parts
is_met (Repeated symbol ∷ parts) = is_met parts

all_met : (symbol : PlanSymbol) → list_all (λ f. is_met f) (plan_forms symbol) ≡ true
all_met (Shared (Declaration Declared.OriginLine)) = refl
all_met (Shared (Declaration Declared.StartLine)) = refl
all_met (Shared (Declaration Declared.PartyLine)) = refl
all_met (Shared (Declaration (Declared.AssetLine One))) = refl
all_met (Shared (Declaration (Declared.AssetLine Two))) = refl
all_met (Shared (Declaration Declared.FurtherName)) = refl
all_met (Shared (Declaration (Declared.FurtherAsset One))) = refl
all_met (Shared (Declaration (Declared.FurtherAsset Two))) = refl
all_met (Shared (Declaration Declared.Decimals)) = refl
all_met (Shared (Declaration Declared.LabelLine)) = refl
all_met (Shared (Declaration Declared.Bound)) = refl
all_met (Shared (Declaration Declared.TemplateLine)) = refl
all_met (Shared Versioned) = refl
all_met (Shared (ContractLine v)) = refl
all_met (Shared (Contract One)) = refl
all_met (Shared (Contract Two)) = refl
all_met (Shared Amount) = refl
all_met (Shared (Expression Language.Contracts)) = refl
all_met (Shared (Expression Language.Code)) = refl
all_met (Shared SignedInteger) = refl
all_met (Shared FurtherTemplate) = refl
all_met (Shared FurtherItem) = refl
all_met PlanLine = refl
all_met PlanSize = refl
all_met SignedNumber = refl

pub plan_fronts_go_on : PlanFrontsGoOn
plan_fronts_go_on ts = (
  (λ front.
      let y = front_goes_on plan_forms samples all_met all_made plan_file_form ts front refl in
      (y.more, subst (λ us. IsWholePlanFile (ts ++ us)) (append-nil y.more) (y.whole []))),
  (λ goes. whole_front plan_forms plan_file_form ts goes.0 goes.1),
)
