-- Every part of an accepted contract can be carried.
use Rattle.std.proofs.Common.{◌≡◌, ◌≤◌, ℕ, ℤ, List, [], ◌∷◌, Result, inl, inr, ap, sym, subst, arith}
use Rattle.term_model.specs.Declarations.{Declarations}
use Rattle.term_model.specs.declared.values.Value.{Value}
use Rattle.term_model.specs.declared.values.Missing.{Missing}
use Rattle.term_core.specs.declared.shared.SharedContr.{SharedContr}
use Rattle.term_core.specs.declared.shared.SharedContr.TheVariants.{Zero as Zero', Pay as Pay', Both', Scale', After', Let', Within'}
use Rattle.term_model.specs.Terms.{expression}
use Rattle.term_model.specs.Terms.{Expression}
use Rattle.term_model.specs.Terms.{Contract, Let}
use Rattle.term_model.specs.Values.{kind_or}
use Rattle.term_model.specs.Bounds.{Range}
use Rattle.term_model.specs.Shifts.{shifted}
use Rattle.term_core.specs.SharedTerms.{shared, StoresOffsets}
use Rattle.term_model.specs.Sizes.{past, height_of_contract}
use Rattle.term_model.specs.Acceptance.{IsAccepted}
use Rattle.interval_check.specs.Nodes.{range_of}
use Rattle.interval_check.specs.Parts.{StandsIn}
use Rattle.interval_check.proofs.LookFacts.{Look}
use Rattle.interval_check.proofs.ShiftedRules.{unshifted_alike}
use Rattle.expr_eval.specs.declared.scratch.Binding.{Binding}
use Rattle.expr_eval.specs.Evaluable.{MayEvaluate, MayEvaluateIn, Suits}
use Rattle.expr_eval.specs.Answers.{entry_from, SuitsBinding}
use Rattle.expr_eval.proofs.PartFacts.{accepted_may_evaluate, parts_of_parts_may_evaluate, here}
use Rattle.expr_eval.proofs.EvaluableFacts.{past_of_standing, past_limited}
use Rattle.flow_eval.proofs.RootFacts.{limits_of}
use Rattle.advance_step.specs.CarryingWalk.{CanCarry, IsEntry, WithEntry}

-- an expression that stands in an accepted contract reads not too far back
recent : (d : Declarations) (c : Contract) (e : Expression) (bs : List Binding) (h : MayEvaluateIn d c bs) → StandsIn d e h.ranges c h.ranges → past e ≤ 1_000_000
recent d c e bs h p =
    let there = past_of_standing d e h.ranges h.contract [] (h.inside e h.ranges p) in
    let limit = past_limited d h.contract h.accepted in
    omega (arith, there, limit)

-- it may be evaluated as it is stored
as_stored : (d : Declarations) (c : Contract) (k : ℤ) (e : Expression) (bs : List Binding) (h : MayEvaluateIn d c bs) → StandsIn d (shifted k e) h.ranges c h.ranges → MayEvaluate d e bs
as_stored d c k e bs h p =
    record { contract = h.contract; moved = k; ranges = h.ranges; accepted = h.accepted; stands = h.inside (shifted k e) h.ranges p; entries = inl h.entries }

abbrev ranged : Look → Range
ranged l = record { interval = l.interval; kind = kind_or l.kind }

-- the range of a name does not see offsets
same_range : (d : Declarations) (e : Expression) (k : ℤ) (g : List Range) → range_of d e g ≡ range_of d (shifted k e) g
same_range d e k g = ap ranged (unshifted_alike d e k g).same

body_ready : (d : Declarations) (k : ℤ) (e : Expression) (c : Contract) (bs : List Binding) → MayEvaluateIn d (Let (shifted k e) c) bs → (r : Result Value Missing) → SuitsBinding d e bs r → MayEvaluateIn d c (entry_from d e bs r ∷ bs)
body_ready d k e c bs h r suits =
    let p : StandsIn d (shifted k e) h.ranges h.contract [] = h.inside (shifted k e) h.ranges (inl (here (shifted k e) h.ranges)) in
    let entry : Suits (range_of d (shifted k e) h.ranges) (entry_from d e bs r) = subst (λ (x : Range). Suits x (entry_from d e bs r)) (same_range d e k h.ranges) (suits h.contract k h.ranges h.accepted p h.entries) in
    record { contract = h.contract; ranges = range_of d (shifted k e) h.ranges ∷ h.ranges; accepted = h.accepted; inside = λ x inner q. h.inside x inner (inr q); entries = (entry, h.entries) }

can_carry : (d : Declarations) (s : SharedContr) (bs : List Binding) → MayEvaluateIn d (shared s) bs → StoresOffsets s → CanCarry d s bs
can_carry d Zero' bs h o = tt
can_carry d (Pay' x p q) bs h o = tt
can_carry d (Both' p a q b) bs h o =
    let parts = parts_of_parts_may_evaluate d (shared (Both' p a q b)) bs h in
    (can_carry d a bs parts.0 o.0, can_carry d b bs parts.1 o.1)
can_carry d (Scale' e k q c) bs h o =
    let parts = parts_of_parts_may_evaluate d (shared (Scale' e k q c)) bs h in
    (record { offsets = o.0; recent = recent d (shared (Scale' e k q c)) (shifted k (expression e.value)) bs h (inl (here (shifted k (expression e.value)) h.ranges)) }, can_carry d c bs parts.1 o.1)
can_carry d (After' n p c) bs h o =
    can_carry d c bs (parts_of_parts_may_evaluate d (shared (After' n p c)) bs h) o
can_carry d (Let' e k q c) bs h o =
    let x = expression e.value in
    let stands : StandsIn d (shifted k x) h.ranges (shared (Let' e k q c)) h.ranges = inl (here (shifted k x) h.ranges) in (
      record { offsets = o.0; recent = recent d (shared (Let' e k q c)) (shifted k x) bs h stands },
      as_stored d (shared (Let' e k q c)) k x bs h stands,
      λ r suits. can_carry d c (entry_from d x bs r ∷ bs) (body_ready d k x (shared c) bs h r suits) o.1,
    )
can_carry d (Within' e n q a r b) bs h o =
    let parts = parts_of_parts_may_evaluate d (shared (Within' e n q a r b)) bs h in
    (parts.0, can_carry d a bs parts.1 o.1, can_carry d b bs parts.2 o.2)

pub accepted_can_carry : (d : Declarations) (s : SharedContr) → IsAccepted d (shared s) → StoresOffsets s → CanCarry d s []
accepted_can_carry d s h o = can_carry d s [] (accepted_may_evaluate d (shared s) h) o

-- a body with the entry that was made for its name
pub entered_ready : (d : Declarations) (s s' : SharedContr) (e e' : Expression) (bs bs' : List Binding) (b : Binding) → e' ≡ e → s' ≡ s → bs' ≡ b ∷ bs → WithEntry d e bs (λ es. CanCarry d s es) → IsEntry d e' bs b → CanCarry d s' bs'
entered_ready d s s' e e' bs bs' b he hs hb ready entry =
    let made : IsEntry d e bs b = subst (λ (x : Expression). IsEntry d x bs b) he entry in
    let body : CanCarry d s (entry_from d e bs made.answer ∷ bs) = ready made.answer made.suits in
    subst (λ (x : SharedContr). CanCarry d x bs') (sym hs) (subst (λ (es : List Binding). CanCarry d s es) (sym hb) (subst (λ (x : Binding). CanCarry d s (x ∷ bs)) (sym made.made) body))

-- a whole contract, with no entries
pub whole_ready : (d : Declarations) (s s' : SharedContr) (bs : List Binding) → bs ≡ [] → s' ≡ s → IsAccepted d (shared s) → StoresOffsets s → CanCarry d s' bs
whole_ready d s s' bs hb hs h o =
    subst (λ (x : SharedContr). CanCarry d x bs) (sym hs) (subst (λ (b : List Binding). CanCarry d s b) (sym hb) (accepted_can_carry d s h o))

-- an accepted contract is not high
pub whole_low : (d : Declarations) (s s' : SharedContr) (n : ℕ) → s' ≡ s → IsAccepted d (shared s) → 200 ≤ n → height_of_contract (shared s') ≤ n
whole_low d s s' n hs h le =
    let low = (limits_of d (shared s) h).low in
    subst (λ (x : SharedContr). height_of_contract (shared x) ≤ n) (sym hs) (omega (arith, low, le))
