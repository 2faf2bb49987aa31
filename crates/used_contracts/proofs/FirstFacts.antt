-- The first of a list is one: the first contract that is not accepted, and the first read that is not fixed. There is none where all
-- are accepted, or fixed.
use Rattle.std.proofs.Common.{◌≡◌, ◌∙◌, ◌-◌, ◌-ℤ◌, ℕ, ℤ, pos, List, [], ◌∷◌, ◌++◌, ap, subst, sym}
use Rattle.std.specs.Prelude.{All, Some, None}
use Rattle.std.proofs.lemmas.List.Elements.{All-head, All-tail, All-weaker}
use Rattle.term_model.specs.declared.name.Name.{Name}
use Rattle.term_model.specs.Declarations.{Declarations}
use Rattle.term_model.specs.Terms.{Contract}
use Rattle.term_model.specs.Acceptance.{IsAccepted, IsRefusal}
use Rattle.term_model.specs.declared.rules.Rule.{Rule}
use Rattle.term_model.specs.Environments.{Environment, Place}
use Rattle.term_model.specs.Reads.{first_unfixed}
use Rattle.term_model.proofs.ReadLawFacts.{reads_stay}
use Rattle.term_model.proofs.RefusalFacts.{accepted_not_refused, refusals_unique}
use Rattle.flow_eval.specs.FlowAnswers.{reads_until}
use Rattle.command_courses.proofs.FixingFacts.{HoldSame, extends_same, same_unfixed, unfixed_up_to}
use Rattle.used_contracts.specs.AllAccepted.{AreAllAccepted, IsFirstNotAccepted}
use Rattle.used_contracts.specs.AllFixed.{AreAllFixed, IsFirstMissing, missing_of}

abbrev pub IsAcceptedEntry : Declarations → Name × Contract → Type 0
IsAcceptedEntry d entry = IsAccepted d entry.1

module _ {X : Type 0} (P Q : X → Type 0) (differ : (x : X) → P x → Q x → ⊥) where
  first_one : (b c : List X) (x y : X) (after other : List X) → b ++ x ∷ after ≡ c ++ y ∷ other → All P b → All P c → Q x → Q y → x ≡ y
  first_one [] [] x y after other e p q here there = cc
  first_one [] (z ∷ c) x y after other e p q here there =
      let same : x ≡ z = cc in
      absurd (differ z (All-head P z c q) (subst Q same here))
  first_one (z ∷ b) [] x y after other e p q here there =
      let same : z ≡ y = cc in
      absurd (differ z (All-head P z b p) (subst Q (sym same) there))
  first_one (w ∷ b) (z ∷ c) x y after other e p q here there =
      first_one b c x y after other (let same : w ∷ (b ++ x ∷ after) ≡ z ∷ (c ++ y ∷ other) = e in cc) (All-tail P w b p) (All-tail P z c q) here there

all_at : {X : Type 0} (P : X → Type 0) (b : List X) (x : X) (after : List X) → All P (b ++ x ∷ after) → P x
all_at P [] x after h = All-head P x after h
all_at P (y ∷ b) x after h = all_at P b x after (All-tail P y (b ++ x ∷ after) h)

record IsRefusedEntry (d : Declarations) (entry : Name × Contract) : Type 0 where
  rule : Rule
  node : ℕ
  refused : IsRefusal d entry.1 rule node

not_both : (d : Declarations) (entry : Name × Contract) → IsAcceptedEntry d entry → IsRefusedEntry d entry → ⊥
not_both d entry a r = accepted_not_refused d entry.1 r.rule r.node a r.refused

module _ (d : Declarations) (entries : List (Name × Contract)) where
  pub accepted_or_not : (name : List ℕ) (rule : Rule) (node : ℕ) → AreAllAccepted d entries → IsFirstNotAccepted d entries name rule node → ⊥
  accepted_or_not name rule node all n =
      let here = all_at (IsAcceptedEntry d) n.before (name, n.contr) n.after (subst (λ (xs : List (Name × Contract)). AreAllAccepted d xs) n.split all) in
      accepted_not_refused d n.contr rule node here n.refused

  pub one_not_accepted : (name other : List ℕ) (rule law : Rule) (node place : ℕ) → IsFirstNotAccepted d entries name rule node → IsFirstNotAccepted d entries other law place → (name ≡ other) × (rule ≡ law) × (node ≡ place)
  one_not_accepted name other rule law node place n m =
      let same = first_one (IsAcceptedEntry d) (IsRefusedEntry d) (not_both d) n.before m.before (name, n.contr) (other, m.contr) n.after m.after (sym n.split ∙ m.split) n.accepted m.accepted (record { rule = rule; node = node; refused = n.refused }) (record { rule = law; node = place; refused = m.refused }) in
      let contr : n.contr ≡ m.contr = ap (λ (x : Name × Contract). x.1) same in
      let r = refusals_unique d m.contr rule law node place (subst (λ (c : Contract). IsRefusal d c rule node) contr n.refused) m.refused in
      (ap (λ (x : Name × Contract). x.0) same, r.0, r.1)

pub same_missing : (d : Declarations) (one other : Environment) (last : ℤ) (c : Contract) → HoldSame one other → missing_of d one last c ≡ missing_of d other last c
same_missing d one other last c same =
    let reads : Environment → List Place = λ env. reads_until d c env (pos d.start) last in
    unfixed_up_to one (reads one) ∙ ap (first_unfixed one) (sym (reads_stay d c one other (pos d.start) (pos 0) (last -ℤ pos d.start) (extends_same one other same))) ∙ sym (unfixed_up_to one (reads other)) ∙ same_unfixed one other same (reads other)

abbrev pub IsFixedEntry : Declarations → Environment → ℤ → Name × Contract → Type 0
IsFixedEntry d fixings last entry = missing_of d fixings last entry.1 ≡ None

record IsMissingEntry (d : Declarations) (fixings : Environment) (last : ℤ) (entry : Name × Contract) : Type 0 where
  place : Place
  missing : missing_of d fixings last entry.1 ≡ Some place

fixed_or_missing : (d : Declarations) (fixings : Environment) (last : ℤ) (entry : Name × Contract) → IsFixedEntry d fixings last entry → IsMissingEntry d fixings last entry → ⊥
fixed_or_missing d fixings last entry h m = let e = sym h ∙ m.missing in cc

pub same_fixed : (d : Declarations) (last : ℤ) (one other : Environment) → HoldSame one other → (entries : List (Name × Contract)) → AreAllFixed d other last entries → AreAllFixed d one last entries
same_fixed d last one other same entries all =
    All-weaker (IsFixedEntry d other last) (IsFixedEntry d one last) (λ entry h. same_missing d one other last entry.1 same ∙ h) entries all

module _ (d : Declarations) (last : ℤ) (entries : List (Name × Contract)) (fixings : Environment) where
  pub fixed_or_not : (place : Place) → AreAllFixed d fixings last entries → IsFirstMissing d fixings last entries place → ⊥
  fixed_or_not place all m =
      let here : missing_of d fixings last m.entry.1 ≡ None = all_at (IsFixedEntry d fixings last) m.before m.entry m.after (subst (λ (xs : List (Name × Contract)). AreAllFixed d fixings last xs) m.split all) in
      let e = sym here ∙ m.missing in
      cc

  pub one_missing : (place spot : Place) → IsFirstMissing d fixings last entries place → IsFirstMissing d fixings last entries spot → place ≡ spot
  one_missing place spot n m =
      let both = first_one (IsFixedEntry d fixings last) (IsMissingEntry d fixings last) (fixed_or_missing d fixings last) n.before m.before n.entry m.entry n.after m.after (sym n.split ∙ m.split) n.fixed m.fixed (record { place = place; missing = n.missing }) (record { place = spot; missing = m.missing }) in
      let e = sym n.missing ∙ ap (λ (x : Name × Contract). missing_of d fixings last x.1) both ∙ m.missing in
      cc
