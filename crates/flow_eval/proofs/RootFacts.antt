-- An accepted contract can be walked, and its payments are few and small.
use Rattle.std.proofs.Common.{◌≡◌, ℕ, ℤ, pos, ◌-ℤ◌, ◌≤ℤ◌, ◌≤◌, ◌^◌, List, [], Option, Some, None, Result, Ok, Err, IsTrue, refl, ap, sym, ◌∙◌, subst, arith, unsigned_abs}
use Rattle.std.specs.Global.{Vec}
use Rattle.std.specs.List.Sorted.{IsPermutation}
use Rattle.std.proofs.lemmas.Int.{ints}
use Rattle.std.proofs.lemmas.Bool.Decides.{nat_tests}
use Rattle.std.proofs.lemmas.List.Elements.{All-weaker}
use Rattle.std.proofs.lemmas.List.Sorted.{All-permutation}
use Rattle.term_model.specs.Declarations.{Declarations}
use Rattle.term_model.specs.Terms.{Contract, Zero, Pay, Both, Scale, After, Let, Within}
use Rattle.term_model.specs.Environments.{Environment, IsAdmitted, Place}
use Rattle.term_model.specs.Values.{Entry}
use Rattle.term_model.specs.Flows.{scale_of_contract}
use Rattle.term_model.specs.Reads.{first_unfixed}
use Rattle.term_model.specs.Bounds.{greatest_total}
use Rattle.term_model.specs.Sizes.{height_of_contract, nodes_of_contract, past_of_contract, reach, work_of_contract}
use Rattle.term_model.specs.Smallness.{days_of_contract, is_small, within_limits}
use Rattle.term_model.specs.Acceptance.{IsAccepted}
use Rattle.term_model.proofs.TimeFacts.{whole_passes}
use Rattle.interval_check.specs.Within.{KeepsLimits}
use Rattle.interval_check.proofs.GuaranteeFacts.{accepted_are_safe, accepted_meet_rules}
use Rattle.expr_eval.specs.Rooms.{Room}
use Rattle.expr_eval.specs.declared.scratch.Binding.{Binding}
use Rattle.expr_eval.specs.Standing.{StandFor}
use Rattle.flow_eval.specs.declared.faults.FlowErr.{FlowErr}
use Rattle.flow_eval.specs.declared.faults.FlowErr.TheVariants.{Missing, NoMemory}
use Rattle.flow_eval.specs.declared.payments.Payment.{Payment}
use Rattle.flow_eval.specs.declared.flow_table.FlowRow.{FlowRow}
use Rattle.flow_eval.specs.Netting.{AreDue, AreSmall, CanBeNetted, Nets, rows_of}
use Rattle.flow_eval.specs.Payments.{payments_of}
use Rattle.flow_eval.specs.Walks.{PaymentsOrMissing, payments_unless, walk_of}
use Rattle.flow_eval.specs.Gathering.{Gathers, IsGathered}
use Rattle.flow_eval.specs.Readiness.{CanWalk, IsAmongDays, names_in}
use Rattle.flow_eval.specs.FlowAnswers.{AreFlows, AreKnownFlows, reads_until}
use Rattle.flow_eval.proofs.GatherFacts.{Done}
use Rattle.flow_eval.proofs.NetTables.{payments_table, table_everywhere}
use Rattle.flow_eval.proofs.NettingFacts.{rows_due}
use Rattle.flow_eval.proofs.PaymentFacts.{Counts, payments_count, payments_few}
use Rattle.flow_eval.proofs.PaymentSizes.{payments_small}
use Rattle.flow_eval.proofs.SizeFacts.{fits_few, fits_moved}
use Rattle.flow_eval.proofs.WalkFacts.{walk_is}

-- ---- the whole

pub record Limits (c : Contract) : Type 0 where
  pub low : height_of_contract c ≤ 200
  pub few : nodes_of_contract c ≤ 100_000
  pub near : reach c ≤ 100_000

limits_by : (h n days far back steps : ℕ) → IsTrue (within_limits h n days far back steps) → (h ≤ 200) × (n ≤ 100_000) × (far ≤ 100_000)
limits_by h n days far back steps p = grind (arith, nat_tests)

pub limits_of : (d : Declarations) (c : Contract) → IsAccepted d c → Limits c
limits_of d c h =
    let all = limits_by (height_of_contract c) (nodes_of_contract c) (days_of_contract c) (reach c) (past_of_contract c) (work_of_contract c) (whole_passes (λ s. IsTrue (is_small s)) c [] 0 h.sizes) in
    record { low = all.0; few = all.1; near = all.2 }

-- each name that is bound is a node on the path
names_below : (c : Contract) → names_in c ≤ height_of_contract c
names_below Zero = omega arith
names_below (Pay a p q) = omega arith
names_below (Both x y) =
    let one = names_below x in
    let other = names_below y in
    omega arith
names_below (Scale e c) = let h = names_below c in omega arith
names_below (After n c) = let h = names_below c in omega arith
names_below (Let e c) = let h = names_below c in omega arith
names_below (Within e n x y) =
    let one = names_below x in
    let other = names_below y in
    omega arith

pub few_names : (d : Declarations) (c : Contract) → IsAccepted d c → names_in c ≤ 200
few_names d c h =
    let l = limits_of d c h in
    let low = l.low in
    let names = names_below c in
    omega arith

pub room_for : (d : Declarations) (c : Contract) (n : ℕ) → IsAccepted d c → 200 ≤ n → names_in c ≤ n
room_for d c n h le =
    let names = few_names d c h in
    omega arith

-- decimals for just as many
pub room_as_counted : (c : Contract) (counted spare : ℕ) → counted ≡ names_in c → spare ≡ counted → names_in c ≤ spare
room_as_counted c counted spare is same = omega arith

pub whole_fits : (d : Declarations) (c : Contract) (F : Environment) → KeepsLimits d → IsAccepted d c → IsAdmitted d F → scale_of_contract d c [] ≤ d.amounts
whole_fits d c F limits accepted admitted = (accepted_are_safe d c F (pos 0) limits accepted admitted).0.scale

at_most : (n : ℕ) → n ≤ n
at_most n = omega arith

pub whole_ready : (d : Declarations) (c : Contract) (r : Room) (F : Environment) → KeepsLimits d → IsAccepted d c → IsAdmitted d F → r.entries ≡ [] → names_in c ≤ r.spare → CanWalk d c d.amounts r F
whole_ready d c r F limits accepted admitted none room = record {
  limits = limits;
  whole = c;
  accepted = accepted;
  admitted = admitted;
  ranges = [];
  inside = λ e h p. p;
  rules = accepted_meet_rules d c accepted;
  values = [];
  places = [];
  within = tt;
  stand = subst (λ (es : List Binding). StandFor F es [] []) (sym none) tt;
  names = room;
  fits = whole_fits d c F limits accepted admitted;
  most = at_most d.amounts;
}

pub whole_days : (d : Declarations) (c : Contract) (f : ℤ) → IsAccepted d c → pos 0 ≤ℤ f → f ≤ℤ pos 1_000_000 → IsAmongDays f (reach c)
whole_days d c f accepted first last =
    let l = limits_of d c accepted in
    let near = l.near in
    record { first = first; last = omega (arith, ints) }

-- ---- what is gathered

not_gathered : (w : PaymentsOrMissing) (xs ys : List Payment) (r : Done) (e : FlowErr) → Gathers w xs ys r → r ≡ Err e → IsGathered w (Err e)
not_gathered w xs ys r e h is = by_fault w xs ys e (subst (λ (x : Done). Gathers w xs ys x) is h)
  where
    by_fault : (w : PaymentsOrMissing) (xs ys : List Payment) (e : FlowErr) → Gathers w xs ys (Err e) → IsGathered w (Err e)
    by_fault w xs ys NoMemory h = tt
    by_fault w xs ys (Missing l t) h = h

-- a walk of a whole contract that notes no payments to the end, from a day that is another name of the first
pub whole_not_gathered : (d : Declarations) (c : Contract) (F : Environment) (f g last : ℤ) (es : List Binding) (xs ys : List Payment) (r : Done) (res : Result (Vec Payment) FlowErr) (e : FlowErr) → es ≡ [] → f ≡ g → r ≡ Err e → res ≡ Err e
    → ((vs : List Entry) (bs : List (List Place)) → StandFor F es vs bs → Gathers (walk_of d d.amounts c vs bs F f last) xs ys r) → IsGathered (walk_of d d.amounts c [] [] F g last) res
whole_not_gathered d c F f g last es xs ys r res e none same is err h =
    let stand : StandFor F es [] [] = subst (λ (bs : List Binding). StandFor F bs [] []) (sym none) tt in
    let gathered = subst (λ (t : ℤ). Gathers (walk_of d d.amounts c [] [] F t last) xs ys r) same (h [] [] stand) in
    subst (λ (x : Result (Vec Payment) FlowErr). IsGathered (walk_of d d.amounts c [] [] F g last) x) (sym err) (not_gathered (walk_of d d.amounts c [] [] F g last) xs ys r e gathered is)

-- the days as they are passed
pub same_walk : (d : Declarations) (decimals : ℕ) (c : Contract) (F : Environment) (f g last until : ℤ) → f ≡ g → last ≡ until → walk_of d decimals c [] [] F f last ≡ walk_of d decimals c [] [] F g until
same_walk d decimals c F f g last until h k = ap (λ (x : ℤ). walk_of d decimals c [] [] F x last) h ∙ ap (λ (x : ℤ). walk_of d decimals c [] [] F g x) k

known_payments : (o : Option Place) (ps qs : List Payment) → payments_unless o ps ≡ Ok qs → (o ≡ None) × (qs ≡ ps)
known_payments None ps qs h = (refl, cc)
known_payments (Some q) ps qs h = absurd (cc)

abbrev place_in : PaymentsOrMissing → Option Place
place_in (Ok ps) = None
place_in (Err m) = Some (record { label = m.label; day = m.day })

lacking_payments : (o : Option Place) (ps : List Payment) (l : ℕ) (t : ℤ) → payments_unless o ps ≡ Err (record { label = l; day = t }) → o ≡ Some (record { label = l; day = t })
lacking_payments None ps l t h = absurd (cc)
lacking_payments (Some q) ps l t h = ap place_in h

whole_walk : (d : Declarations) (c : Contract) (F : Environment) (f last : ℤ) → walk_of d d.amounts c [] [] F f last ≡ payments_unless (first_unfixed F (reads_until d c F f last)) (payments_of d d.amounts c [] F f last)
whole_walk d c F f last = walk_is d F last c [] [] d.amounts f (pos 0) (last -ℤ f) (omega (arith, ints)) refl

whole_payments : (d : Declarations) (c : Contract) (F : Environment) (f last : ℤ) (ps : List Payment) → walk_of d d.amounts c [] [] F f last ≡ Ok ps → (first_unfixed F (reads_until d c F f last) ≡ None) × (ps ≡ payments_of d d.amounts c [] F f last)
whole_payments d c F f last ps h = known_payments (first_unfixed F (reads_until d c F f last)) (payments_of d d.amounts c [] F f last) ps (sym (whole_walk d c F f last) ∙ h)

total_below : (n : ℕ) → n ≤ greatest_total → n ≤ 10 ^ 30
total_below n h = omega arith

all_small : (d : Declarations) (c : Contract) (F : Environment) (f last : ℤ) → KeepsLimits d → IsAccepted d c → IsAdmitted d F → AreSmall (10 ^ 30) (payments_of d d.amounts c [] F f last)
all_small d c F f last limits accepted admitted =
    let safe = accepted_are_safe d c F f limits accepted admitted in
    All-weaker (λ (p : Payment). unsigned_abs p.amount ≤ greatest_total) (λ (p : Payment). unsigned_abs p.amount ≤ 10 ^ 30) (λ p is. total_below (unsigned_abs p.amount) is) (payments_of d d.amounts c [] F f last)
    (payments_small d F last c [] d.amounts greatest_total f (whole_fits d c F limits accepted admitted) (at_most d.amounts) safe.0.aligned_turnover)

-- the payments of a walk can be netted
pub walked_fit : (d : Declarations) (c : Contract) (F : Environment) (f last : ℤ) (ps : List Payment) → KeepsLimits d → IsAccepted d c → IsAdmitted d F → walk_of d d.amounts c [] [] F f last ≡ Ok ps → CanBeNetted ps
walked_fit d c F f last ps limits accepted admitted walked =
    let l = limits_of d c accepted in
    let few = l.few in
    let all = payments_of d d.amounts c [] F f last in
    subst (λ (xs : List Payment). CanBeNetted xs) (sym (whole_payments d c F f last ps walked).1) (fits_few all (all_small d c F f last limits accepted admitted) (omega (arith, payments_few d F last c [] d.amounts f)))

sorted_due : (d : Declarations) (c : Contract) (F : Environment) (f last : ℤ) (ps qs : List Payment) → walk_of d d.amounts c [] [] F f last ≡ Ok ps → IsPermutation ps qs → AreDue f last qs
sorted_due d c F f last ps qs walked moved =
    All-permutation (λ (p : Payment). (f ≤ℤ p.slot.day) × (p.slot.day ≤ℤ last)) ps qs moved (subst (λ (xs : List Payment). AreDue f last xs) (sym (whole_payments d c F f last ps walked).1)
    (All-weaker (λ (p : Payment). Counts f last p.slot) (λ (p : Payment). (f ≤ℤ p.slot.day) × (p.slot.day ≤ℤ last)) (λ p is. (is.0, is.1)) (payments_of d d.amounts c [] F f last) (payments_count d F f last c [] d.amounts f (omega (arith, ints)))))

pub known_flows : (d : Declarations) (c : Contract) (F : Environment) (f last : ℤ) (ps : List Payment) (rows : List FlowRow) → KeepsLimits d → IsAccepted d c → IsAdmitted d F → walk_of d d.amounts c [] [] F f last ≡ Ok ps → Nets ps rows → AreKnownFlows d c F f last rows
known_flows d c F f last ps rows limits accepted admitted walked nets =
    let known = whole_payments d c F f last ps walked in
    let qs = nets.sorted in
    let table = payments_table d F c f last ps qs (whole_fits d c F limits accepted admitted) known.1 nets.moved nets.in_order in
    subst (λ (rs : List FlowRow). AreKnownFlows d c F f last rs) (sym nets.netted) (record {
      fixed = known.0;
      table = λ env extends. table_everywhere d c F env f last (rows_of qs) extends known.0 table;
      due = rows_due f last qs (sorted_due d c F f last ps qs walked nets.moved) (fits_moved ps qs nets.moved (walked_fit d c F f last ps limits accepted admitted walked));
    })

pub lacking_flows : (d : Declarations) (c : Contract) (F : Environment) (f last : ℤ) (e : FlowErr) → IsGathered (walk_of d d.amounts c [] [] F f last) (Err e) → AreFlows d c F f last (Err e)
lacking_flows d c F f last NoMemory h = tt
lacking_flows d c F f last (Missing l t) h = lacking_payments (first_unfixed F (reads_until d c F f last)) (payments_of d d.amounts c [] F f last) l t (sym (whole_walk d c F f last) ∙ h)
