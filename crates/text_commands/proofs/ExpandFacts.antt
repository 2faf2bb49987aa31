-- The expansions of plans: one more behind those so far, and each can be tried and printed.
use Rattle.std.proofs.Common.{◌≡◌, ◌∙◌, ℕ, List, [], ◌∷◌, ◌++◌, append_assoc, map, ap, arith, refl, subst, sym}
use Rattle.std.specs.Prelude.{All}
use Rattle.std.proofs.lemmas.List.{append-nil}
use Rattle.std.proofs.lemmas.List.Elements.{All-cons, All-head, All-nil, All-push, All-tail}
use Rattle.term_model.specs.declared.name.Name.{Name}
use Rattle.term_model.specs.Acceptance.{IsAccepted}
use Rattle.term_model.specs.DayCounts.{Days, Named, Num as Count, Sum}
use Rattle.term_model.specs.Declarations.{Declarations}
use Rattle.term_model.specs.Instances.{HasSmallSums, IsSmallSum}
use Rattle.term_model.specs.Terms.{Contract, Zero, Pay, Both, Scale, After, Let, Within}
use Rattle.term_model.specs.WellFormed.{HasOnlyNumbers, IsNumber}
use Rattle.contract_print.specs.Canon.{AppendsBeginning, IsBeginning, IsCanon}
use Rattle.contract_print.specs.Spellable.{IsSpellable}
use Rattle.contract_grammar.specs.Writable.{IsWritableTerm}
use Rattle.contract_print.proofs.LineByLine.{begun_is_canon, one_more_canon}
use Rattle.contract_print.proofs.TermNumbers.{spellable_written}
use Rattle.schedule_forms.specs.DeclaredPlans.{IsPlanOfTexts}
use Rattle.schedule_forms.specs.Expansions.{expansion}
use Rattle.schedule_forms.specs.declared.plans.Plan.{Plan}
use Rattle.schedule_forms.proofs.PlanFacts.{expansions_closed}
use Rattle.schedule_forms.proofs.SmallFacts.{expansions_small}
use Rattle.report.specs.declared.fault_lines.Fault.{Fault}
use Rattle.used_contracts.specs.AllAccepted.{AreAllAccepted}
use Rattle.text_commands.specs.ExpandParts.{AppendsExpansion, ArePrintedBefore, ArePrintedExpansions, AreWritableExpansions, book_of, expanded_entry}
use Rattle.used_contracts.specs.AcceptingParts.{IsRefusedOne}
use Rattle.used_contracts.specs.AllAccepted.{IsRefusedOf}
use Rattle.contract_parse.specs.NextContracts.{IsSoundContract}
use Rattle.used_contracts.specs.UsedParts.{IsTriable}

-- the next plan of those that are left
pub next_within : (P : Plan → Type 0) (plans rest : List (Name × Plan)) (name : Name) (plan : Plan) → plans ≡ (name, plan) ∷ rest
    → All (λ (entry : Name × Plan). P entry.1) plans → P plan × All (λ (entry : Name × Plan). P entry.1) rest
next_within P plans rest name plan steps all =
    let Q : Name × Plan → Type 0 = λ entry. P entry.1 in
    let here = subst (All Q) steps all in
    (All-head Q (name, plan) rest here, All-tail Q (name, plan) rest here)

-- ---- an expansion can be tried

small_count : (n : Days) → IsNumber n → IsSmallSum n
small_count (Count n) h = tt
small_count (Named t) h = absurd h
small_count (Sum n ts) h = absurd h

-- what names no template has no sum that could be large
numbers_small : (c : Contract) → HasOnlyNumbers c → HasSmallSums c
numbers_small Zero h = tt
numbers_small (Pay a p q) h = tt
numbers_small (Both a b) h = (numbers_small a h.0, numbers_small b h.1)
numbers_small (Scale e c) h = numbers_small c h
numbers_small (After n c) h = (small_count n h.0, numbers_small c h.1)
numbers_small (Let e c) h = numbers_small c h
numbers_small (Within e n a b) h = (small_count n h.0, numbers_small a h.1, numbers_small b h.2)

module _ (d : Declarations) (plan : Plan) (fits : IsPlanOfTexts d plan) where
  pub expansion_numbers : HasOnlyNumbers (expansion plan)
  expansion_numbers = (expansions_closed d plan fits.within fits.over).1

  pub expansion_sound : IsSoundContract d (expansion plan)
  expansion_sound =
      let small = expansions_small plan fits.within in
      record {
        closed = (expansions_closed d plan fits.within fits.over).0;
        low = small.0;
        small = omega (arith, small.1);
        sums = numbers_small (expansion plan) expansion_numbers;
      }

  pub expansion_triable : IsTriable d (expansion plan)
  expansion_triable =
      let sound = expansion_sound in
      record { closed = sound.closed; numbers = expansion_numbers; low = omega (arith, sound.low); small = sound.small }

-- ---- the first that is refused

pub refused_there : (d : Declarations) (before : List (Name × Contract)) (entry : Name × Contract) (after : List (Name × Contract)) (f : Fault) → AreAllAccepted d before → IsRefusedOne d entry f
    → IsRefusedOf d (before ++ entry ∷ after) f
refused_there d before entry after f all one = record {
  name = entry.0;
  rule = one.rule;
  node = one.node;
  first = record { before = before; contr = entry.1; after = after; split = refl; accepted = all; refused = one.refused };
  fault_is = one.fault_is;
}

-- ---- those of all plans

pub expansions_writable : (d : Declarations) (plans : List (Name × Plan)) → All (λ (entry : Name × Contract). IsSpellable d entry.1) (map expanded_entry plans) → AreWritableExpansions plans
expansions_writable d [] all = All-nil (λ (entry : Name × Plan). IsWritableTerm (expansion entry.1))
expansions_writable d (entry ∷ plans) all =
    let P : Name × Contract → Type 0 = λ e. IsSpellable d e.1 in
    let contracts = map expanded_entry plans in
    All-cons (λ (e : Name × Plan). IsWritableTerm (expansion e.1)) entry plans (spellable_written d (expansion entry.1) (All-head P (expanded_entry entry) contracts all))
    (expansions_writable d plans (All-tail P (expanded_entry entry) contracts all))

module _ (d : Declarations) (plans : List (Name × Plan)) where
  pub printed_none : (old new : List ℕ) → old ≡ [] → AppendsBeginning d old new → ArePrintedBefore d plans plans new
  printed_none old new none begins =
      let is : new ≡ begins.text = begins.appended ∙ ap (λ (t : List ℕ). t ++ begins.text) none in
      record {
        entries = [];
        before = refl;
        canon = begun_is_canon d new (subst (λ (t : List ℕ). IsBeginning t d) (sym is) begins.is_beginning);
        accepted = All-nil (λ (entry : Name × Contract). IsAccepted d entry.1);
      }

  pub printed_all : (left : List (Name × Plan)) (text : List ℕ) → left ≡ [] → ArePrintedBefore d plans left text → ArePrintedExpansions d plans text
  printed_all left text none h =
      let are : h.entries ≡ map expanded_entry plans = sym (append-nil h.entries) ∙ ap (λ (xs : List (Name × Plan)). h.entries ++ map expanded_entry xs) (sym none) ∙ h.before in
      record {
        canon = subst (λ (es : List (Name × Contract)). IsCanon text (book_of d es)) are h.canon;
        accepted = subst (λ (es : List (Name × Contract)). AreAllAccepted d es) are h.accepted;
      }

  module _ (left rest : List (Name × Plan)) (name : Name) (plan : Plan) (old : List ℕ) (steps : left ≡ (name, plan) ∷ rest) (h : ArePrintedBefore d plans left old) where
    all_plans : h.entries ++ (name, expansion plan) ∷ map expanded_entry rest ≡ map expanded_entry plans
    all_plans = ap (λ (xs : List (Name × Plan)). h.entries ++ map expanded_entry xs) (sym steps) ∙ h.before

    pub printed_more : (new : List ℕ) → AppendsExpansion d name plan old new → ArePrintedBefore d plans rest new
    printed_more new more =
        let entry : Name × Contract = (name, expansion plan) in
        record {
          entries = h.entries ++ entry ∷ [];
          before = append_assoc h.entries (entry ∷ []) (map expanded_entry rest) ∙ all_plans;
          canon = subst (λ (t : List ℕ). IsCanon t (book_of d (h.entries ++ entry ∷ []))) (sym more.line) (one_more_canon d h.entries entry old h.canon);
          accepted = All-push (λ (entry : Name × Contract). IsAccepted d entry.1) h.entries entry h.accepted more.accepted;
        }

    pub refused_next : (f : Fault) → IsRefusedOne d (name, expansion plan) f → IsRefusedOf d (map expanded_entry plans) f
    refused_next f one =
        subst (λ (es : List (Name × Contract)). IsRefusedOf d es f) all_plans (refused_there d h.entries (name, expansion plan) (map expanded_entry rest) f h.accepted one)
