-- The laws of reads.
use Rattle.std.proofs.Common.{◌≡◌, ℕ, ℤ, pos, Bool, true, false, ◌||◌, ◌==◌, if◌then◌else◌, int_eq, ◌-◌, refl, ap, ap₂, sym, subst, Some, None, Option, is_some, List, [], ◌∷◌, arith, slice_get}
use Rattle.std.proofs.lemmas.Int.{ints}
use Rattle.std.proofs.lemmas.Bool.Decides.{Decides-eqb, Decides-int_eq}
use Rattle.std.proofs.lemmas.List.Elements.{All-head, All-tail}
use Rattle.std.specs.List.{list_all, list_any}
use Rattle.decimal.specs.Rounding.{raised}
use Rattle.term_model.specs.Declarations.{Declarations}
use Rattle.term_model.specs.declared.values.Value.{Value}
use Rattle.term_model.specs.Environments.{Environment, Place, held, observed, value_or, least, label_of, same_place, Extends}
use Rattle.term_model.specs.Values.{Entry, value_of_entry}
use Rattle.term_model.specs.Flows.{scale_of_contract}
use Rattle.term_model.specs.Reads.{reads_of, reads_of_contract, is_fixed, first_unfixed}
use Rattle.term_model.specs.LawsReads.{ReadsStayUpToUnfixed, AmountsAreFixed, AgreeAt, ValuesDependOnReads, AmountsDependOnReads, StandAlike, ExpressionReadsStay, ValuesAreFixed}
use Rattle.term_model.proofs.AlikeFacts.{same_alike, and_left, and_right}
use Rattle.term_model.proofs.ReadFacts.{SameWhere, SameNames, reads_alike}
use Rattle.term_model.proofs.ContractReadFacts.{live_alike, flow_same}

-- no names
pub no_names : (ok : Place → Bool) → SameNames ok [] [] [] []
no_names ok = record { same_kinds = refl; alike = λ k. same_alike [] (value_of_entry None) }

kept : (d : Declarations) (env : Environment) (q : Place) (o p : Option Value) → is_some o ≡ true → ((v : Value) → o ≡ Some v → p ≡ Some v) → value_or p (least (label_of d q.label)) ≡ value_or o (least (label_of d q.label))
kept d env q (Some v) p h k = ap (λ (r : Option Value). value_or r (least (label_of d q.label))) (k v refl)
kept d env q None p h k = absurd (cc)

pub extension_reads : (d : Declarations) (fixings env : Environment) → Extends fixings env → SameWhere d (is_fixed fixings) env fixings
extension_reads d fixings env x q fixed = kept d env q (held fixings q) (held env q) fixed (x q)

pub reads_stay : ReadsStayUpToUnfixed
reads_stay d c fixings env f a b x =
    (live_alike d (is_fixed fixings) env fixings (extension_reads d fixings env x) c [] [] [] [] (no_names (is_fixed fixings)) f a b).lists

none_unfixed : (fixings : Environment) (q : Place) (b : Bool) (o : Option Place) → is_fixed fixings q ≡ b → (if b then o else Some q) ≡ None → (b ≡ true) × (o ≡ None)
none_unfixed fixings q true o e h = (refl, h)
none_unfixed fixings q false o e h = absurd (cc)

pub all_fixed : (fixings : Environment) (qs : List Place) → first_unfixed fixings qs ≡ None → list_all (is_fixed fixings) qs ≡ true
all_fixed fixings [] h = refl
all_fixed fixings (q ∷ qs) h =
    let both = none_unfixed fixings q (is_fixed fixings q) (first_unfixed fixings qs) refl h in
    rw both.0 (all_fixed fixings qs both.1)

pub amounts_fixed : AmountsAreFixed
amounts_fixed d c fixings env f b x none n le w =
    ap (λ (z : ℤ). raised z (d.amounts - scale_of_contract d c []))
    (sym (flow_same d (is_fixed fixings) fixings env (λ q fixed. sym (extension_reads d fixings env x q fixed)) c [] [] [] [] (no_names (is_fixed fixings)) f (pos 0) (pos b) (pos n) w (omega (arith, ints)) (omega (arith, ints)) (all_fixed fixings (reads_of_contract d c [] [] fixings f (pos 0) (pos b)) none)))

-- a place is in a list
abbrev is_listed : List Place → Place → Bool
is_listed qs q = list_any (λ p. same_place p q) qs

same_is : (p q : Place) → same_place p q ≡ true → p ≡ q
same_is p q h =
    let label : p.label ≡ q.label = (Decides-eqb p.label q.label).0 (and_left (p.label == q.label) (int_eq p.day q.day) h) in
    let day : p.day ≡ q.day = (Decides-int_eq p.day q.day).0 (and_right (p.label == q.label) (int_eq p.day q.day) h) in
    let place : ℕ → ℤ → Place = λ l t. record { label = l; day = t } in
    ap₂ place label day

same_itself : (q : Place) → same_place q q ≡ true
same_itself q = rw ((Decides-eqb q.label q.label).1 refl) ((Decides-int_eq q.day q.day).1 refl)

weaker : (ok more : Place → Bool) (qs : List Place) → ((q : Place) → ok q ≡ true → more q ≡ true) → list_all ok qs ≡ true → list_all more qs ≡ true
weaker ok more [] h p = refl
weaker ok more (q ∷ qs) h p =
    rw (h q (and_left (ok q) (list_all ok qs) p)) (weaker ok more qs h (and_right (ok q) (list_all ok qs) p))

or_right : (a b : Bool) → b ≡ true → (a || b) ≡ true
or_right true b h = refl
or_right false b h = h

all_listed : (qs : List Place) → list_all (is_listed qs) qs ≡ true
all_listed [] = refl
all_listed (q ∷ qs) =
    rw (same_itself q) (weaker (is_listed qs) (is_listed (q ∷ qs)) qs (λ p h. or_right (same_place q p) (is_listed qs p) h) (all_listed qs))

or_cases : (d : Declarations) (one other : Environment) (p q : Place) (qs : List Place) (b : Bool) → same_place p q ≡ b → observed d one p.label p.day ≡ observed d other p.label p.day → (is_listed qs q ≡ true → observed d one q.label q.day ≡ observed d other q.label q.day) → (b || is_listed qs q) ≡ true → observed d one q.label q.day ≡ observed d other q.label q.day
or_cases d one other p q qs true e here rest h =
    subst (λ (r : Place). observed d one r.label r.day ≡ observed d other r.label r.day) (same_is p q e) here
or_cases d one other p q qs false e here rest h = rest h

agree_listed : (d : Declarations) (one other : Environment) (qs : List Place) → AgreeAt d one other qs → SameWhere d (is_listed qs) one other
agree_listed d one other [] h q p = absurd (cc)
agree_listed d one other (x ∷ qs) h q p =
    let P : Place → Type 0 = λ r. observed d one r.label r.day ≡ observed d other r.label r.day in
    or_cases d one other x q qs (same_place x q) refl (All-head P x qs h) (agree_listed d one other qs (All-tail P x qs h) q) p

pub values_depend : ValuesDependOnReads
values_depend d e g one other f h =
    let qs = reads_of d e g [] one f in
    (reads_alike d (is_listed qs) one other (agree_listed d one other qs h) e g g [] [] (record { same_kinds = refl; alike = λ k. same_alike [] (value_of_entry (slice_get g k)) }) f).values (all_listed qs)

pub amounts_depend : AmountsDependOnReads
amounts_depend d c one other f b h n le w =
    let qs = reads_of_contract d c [] [] one f (pos 0) (pos b) in
    ap (λ (z : ℤ). raised z (d.amounts - scale_of_contract d c []))
    (flow_same d (is_listed qs) one other (agree_listed d one other qs h) c [] [] [] [] (no_names (is_listed qs)) f (pos 0) (pos b) (pos n) w (omega (arith, ints)) (omega (arith, ints)) (all_listed qs))

names_alike : (fixings : Environment) (g : List Entry) (bs : List (List Place)) (h : List Entry) (cs : List (List Place)) → StandAlike fixings g bs h cs → SameNames (is_fixed fixings) g bs h cs
names_alike fixings g bs h cs s =
    record { same_kinds = s.same_kinds; alike = λ k. record { lists = s.same_reads k; values = s.same_values k } }

pub expression_reads_stay : ExpressionReadsStay
expression_reads_stay d e fixings env g bs h cs f x s =
    (reads_alike d (is_fixed fixings) env fixings (extension_reads d fixings env x) e g h bs cs (names_alike fixings g bs h cs s) f).lists

pub values_fixed : ValuesAreFixed
values_fixed d e fixings env g bs h cs f x s none =
    (reads_alike d (is_fixed fixings) env fixings (extension_reads d fixings env x) e g h bs cs (names_alike fixings g bs h cs s) f).values (all_fixed fixings (reads_of d e g bs env f) none)
