-- A portfolio over fixings and to a day has one text of `advance`, and one of `novate`.
use Rattle.std.proofs.Common.{◌≡◌, ◌∙◌, ℕ, List, [], ◌∷◌, ◌++◌, ap₂, refl, subst, sym}
use Rattle.std.specs.Prelude.{None, Option}
use Rattle.term_model.specs.declared.name.Name.{Name}
use Rattle.term_model.specs.Books.{Book}
use Rattle.term_model.specs.Declarations.{Declarations}
use Rattle.term_model.specs.Environments.{Environment, Place, held}
use Rattle.term_model.specs.Terms.{Contract}
use Rattle.contract_print.specs.Canon.{IsCanon}
use Rattle.contract_print.proofs.LinesSpelled.{one_canon}
use Rattle.command_words.specs.Commands.{AdvanceAsked, NovateAsked}
use Rattle.command_courses.specs.Course.{Tells}
use Rattle.command_courses.specs.declared.status.Status.{Status}
use Rattle.command_courses.proofs.FixingFacts.{hold_same}
use Rattle.command_courses.proofs.StageFacts.{some_same}
use Rattle.used_contracts.specs.UsedContracts.{used}
use Rattle.lifecycle_commands.specs.AdvanceCourse.{advance_on}
use Rattle.lifecycle_commands.specs.AdvancePromise.{AreResiduals, IsAdvanceText, IsAdvancedWith, IsRestBook, last_gone}
use Rattle.lifecycle_commands.specs.NovateCourse.{novate_on}
use Rattle.lifecycle_commands.specs.NovatePromise.{IsNovateText, IsNovated}
use Rattle.lifecycle_commands.proofs.DueAreOne.{one_due}
use Rattle.lifecycle_commands.proofs.SoundLifecycle.{one_new_day}

-- ---- what is left

same_entry : (x y : Name × Contract) → x.0 ≡ y.0 → x.1 ≡ y.1 → x ≡ y
same_entry x y h k = ap₂ (λ (n : Name) (c : Contract). (n, c)) h k

same_book : (a b : Book) → a.declarations ≡ b.declarations → a.contracts ≡ b.contracts → a ≡ b
same_book a b h k = ap₂ (λ (d : Declarations) (cs : List (Name × Contract)). record { declarations = d; contracts = cs }) h k

module _ (d : Declarations) (day : ℕ) (one other : Environment) (same : (q : Place) → held one q ≡ held other q) where
  rests_are_one : (entries rest more : List (Name × Contract)) → AreResiduals d one day entries rest → AreResiduals d other day entries more → rest ≡ more
  rests_are_one [] [] [] h k = refl
  rests_are_one [] [] (y ∷ ys) h k = absurd k
  rests_are_one [] (x ∷ xs) more h k = absurd h
  rests_are_one (entry ∷ entries) [] more h k = absurd h
  rests_are_one (entry ∷ entries) (x ∷ xs) [] h k = absurd k
  rests_are_one (entry ∷ entries) (x ∷ xs) (y ∷ ys) h k =
      let first = same_entry x y (h.0 ∙ sym k.0) (h.1.exact other same ∙ sym (k.1.exact other (λ q. refl))) in
      ap₂ (λ (e : Name × Contract) (es : List (Name × Contract)). e ∷ es) first (rests_are_one entries xs ys h.2 k.2)

module _ (b : Book) (day : ℕ) (one other : Environment) (same : (q : Place) → held one q ≡ held other q) where
  books_are_one : (rest more : Book) → IsRestBook b one day rest → IsRestBook b other day more → rest ≡ more
  books_are_one rest more h k =
      same_book rest more (h.declarations ∙ sym k.declarations)
      (rests_are_one b.declarations day one other same (used None b) rest.contracts more.contracts h.contracts k.contracts)

  carried_is_one : (change : Book → Book) (t u : List ℕ) → IsAdvancedWith change b day one t → IsAdvancedWith change b day other u → t ≡ u
  carried_is_one change t u h k =
      let due = one_due b.declarations (last_gone day) one other same (used None b) h.due k.due h.are_due k.are_due in
      let rest = books_are_one h.rest k.rest h.is_rest k.is_rest in
      let canon = one_canon h.canon k.canon (change k.rest) (subst (λ (r : Book). IsCanon h.canon (change r)) rest h.is_canon) k.is_canon in
      h.is ∙ ap₂ (λ (x y : List ℕ). x ++ y) due canon ∙ sym k.is

-- ---- the texts

advance_texts_are_one : (b : Book) (asked : AdvanceAsked) (table : Option (List ℕ)) (one other : List ℕ)
    → IsAdvanceText b asked table one → IsAdvanceText b asked table other → one ≡ other
advance_texts_are_one b asked table one other h k =
    let same = hold_same b.declarations table h.fixings k.fixings h.can.are_fixings k.can.are_fixings in
    let day = one_new_day b.declarations asked.to k.day h.day k.can.is_day h.can.is_day in
    let there = subst (λ (x : ℕ). IsAdvancedWith (λ rest. rest) b x k.fixings other) day k.advanced in
    carried_is_one b h.day h.fixings k.fixings same (λ rest. rest) one other h.advanced there

novate_texts_are_one : (b : Book) (asked : NovateAsked) (table : Option (List ℕ)) (one other : List ℕ)
    → IsNovateText b asked table one → IsNovateText b asked table other → one ≡ other
novate_texts_are_one b asked table one other h k =
    let same = hold_same b.declarations table h.fixings k.fixings h.can.are_fixings k.can.are_fixings in
    let day = one_new_day b.declarations asked.advance.to k.day h.day k.can.is_day h.can.is_day in
    let old : k.old ≡ h.old = some_same k.old h.old (sym k.names.old_is ∙ h.names.old_is) in
    let new : k.new ≡ h.new = some_same k.new h.new (sym k.names.new_is ∙ h.names.new_is) in
    let dated = subst (λ (x : ℕ). IsNovated asked.contract k.old k.new b x k.fixings other) day k.novated in
    let named = subst (λ (x : ℕ). IsNovated asked.contract x k.new b h.day k.fixings other) old dated in
    let there = subst (λ (x : ℕ). IsNovated asked.contract h.old x b h.day k.fixings other) new named in
    carried_is_one b h.day h.fixings k.fixings same _ one other h.novated there

-- ---- as courses tell them

advance_told : (asked : AdvanceAsked) (b : Book) (table : Option (List ℕ)) (s : Status) (text : List ℕ) → Tells (advance_on asked b table) s text → IsAdvanceText b asked table text
advance_told asked b table s text (day, is_day, (a, accepted, (fixings, are_fixings, (e, fixed, (done, advanced))))) = record {
  day = day;
  fixings = fixings;
  can = record { is_day = is_day; accepted = accepted; are_fixings = are_fixings; fixed = fixed };
  advanced = advanced;
}

novate_told : (asked : NovateAsked) (b : Book) (table : Option (List ℕ)) (s : Status) (text : List ℕ) → Tells (novate_on asked b table) s text → IsNovateText b asked table text
novate_told asked b table s text (x, contract, (old, old_is, (new, new_is, (day, is_day, (a, accepted, (fixings, are_fixings, (e, fixed, (done, novated)))))))) = record {
  old = old;
  new = new;
  names = record { contract = contract; old_is = old_is; new_is = new_is };
  day = day;
  fixings = fixings;
  can = record { is_day = is_day; accepted = accepted; are_fixings = are_fixings; fixed = fixed };
  novated = novated;
}

pub told_of_advance : (asked : AdvanceAsked) (b : Book) (table : Option (List ℕ)) (s t : Status) (one other : List ℕ)
    → Tells (advance_on asked b table) s one → Tells (advance_on asked b table) t other → one ≡ other
told_of_advance asked b table s t one other h k =
    advance_texts_are_one b asked table one other (advance_told asked b table s one h) (advance_told asked b table t other k)

pub told_of_novate : (asked : NovateAsked) (b : Book) (table : Option (List ℕ)) (s t : Status) (one other : List ℕ)
    → Tells (novate_on asked b table) s one → Tells (novate_on asked b table) t other → one ≡ other
told_of_novate asked b table s t one other h k =
    novate_texts_are_one b asked table one other (novate_told asked b table s one h) (novate_told asked b table t other k)
