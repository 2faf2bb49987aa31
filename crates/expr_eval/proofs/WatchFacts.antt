-- What is observed, tried against what stays the same, answers what the comparison does.
use Rattle.std.proofs.Common.{◌≡◌, ℕ, ◌+◌, ◌-◌, ◌^◌, ◌<◌, max, ℤ, pos, ◌+ℤ◌, ◌*ℤ◌, Bool, true, false, not, Option, Some, None, Ok, Err, List, refl, ap, ap₂, sym, subst, ◌∙◌, inl, inr, arith}
use Rattle.std.specs.Prelude.{Contains, IfSome, length, slice_index_or}
use Rattle.std.specs.Ordering.{int_eq}
use Rattle.std.proofs.lemmas.Bool.{cases_Bool}
use Rattle.std.proofs.lemmas.Bool.Decides.{Decides-int_eq}
use Rattle.std.proofs.lemmas.Int.{ints}
use Rattle.decimal.specs.Rounding.{raised}
use Rattle.term_model.specs.Declarations.{declarations}
use Rattle.term_model.specs.declared.decls.Decls.{Decls}
use Rattle.term_model.specs.declared.terms.CmpOp.{CmpOp}
use Rattle.term_model.specs.declared.terms.CmpOp.TheVariants.{Less, LessEq, Greater, GreaterEq, Equal, Unequal}
use Rattle.term_model.specs.declared.values.Kind.{Kind}
use Rattle.term_model.specs.declared.values.Value.{Value}
use Rattle.term_model.specs.declared.values.Missing.{Missing}
use Rattle.term_model.specs.Kinds.{scale_of_kind}
use Rattle.term_model.specs.Terms.{Expression, Obs, Cmp}
use Rattle.term_model.specs.Environments.{Environment, held}
use Rattle.term_model.specs.Values.{cmp_op, num, of_cmp}
use Rattle.fixing_files.specs.Runs.{LendsDays}
use Rattle.fixing_files.specs.declared.runs.FixedDay.{FixedDay}
use Rattle.fixing_files.proofs.RunFacts.{same_read}
use Rattle.expr_eval.specs.declared.operations.Typed.{Typed}
use Rattle.expr_eval.specs.declared.bindings.Bindings.{Bindings}
use Rattle.expr_eval.specs.declared.comparisons.Factors.{Factors}
use Rattle.expr_eval.specs.declared.stops.Stop.{Stop}
use Rattle.expr_eval.specs.declared.stops.Stop.TheVariants.{Never, Met, Lacking}
use Rattle.expr_eval.specs.declared.watches.Trial.TheVariants.{Flag, Number}
use Rattle.expr_eval.specs.declared.watches.Watch.{Watch}
use Rattle.expr_eval.specs.Operations.{compared, number_in, scale_in}
use Rattle.expr_eval.specs.Bindings.{bindings}
use Rattle.expr_eval.specs.Runs.{Answer, both_of, kind_observed, observation, of_place, on_both}
use Rattle.expr_eval.specs.Comparing.{factors, truth_found}
use Rattle.expr_eval.specs.Stops.{TruthOrMissing, first_stop, is_wanted, wanted_of}
use Rattle.expr_eval.specs.Evaluations.{answer_in}
use Rattle.expr_eval.specs.Watching.{IsAgainst, IsWatched, Stands, is_met, met_by, met_on, observed_later, turned}
use Rattle.expr_eval.specs.Searches.{IsStop, IsFlagStop, met_in}
use Rattle.expr_eval.proofs.StopFacts.{same_stop, stops_lacking, stops_met, stops_not}

-- sides in the other order

same_ints : (x y : ℤ) → int_eq x y ≡ int_eq y x
same_ints x y = elim (cases_Bool (int_eq y x)) [
  | inl same ↦ (Decides-int_eq x y).1 (sym ((Decides-int_eq y x).0 same)) ∙ sym same
  | inr other ↦
      elim (cases_Bool (int_eq x y)) [
        | inl same ↦ let back : int_eq y x ≡ true = (Decides-int_eq y x).1 (sym ((Decides-int_eq x y).0 same)) in absurd (cc)
        | inr apart ↦ apart ∙ sym other
      ]
]

turned_is : (op : CmpOp) (x y : ℤ) → cmp_op (turned op) x y ≡ cmp_op op y x
turned_is Less x y = refl
turned_is LessEq x y = refl
turned_is Greater x y = refl
turned_is GreaterEq x y = refl
turned_is Equal x y = same_ints x y
turned_is Unequal x y = ap not (same_ints x y)

turned_scales : (op : CmpOp) (i : ℕ) (x : ℤ) (j : ℕ) (y : ℤ) → of_cmp (turned op) i x j y ≡ of_cmp op j y i x
turned_scales op i x j y =
    let e : max i j ≡ max j i = omega arith in
    turned_is op (raised x (max i j - i)) (raised y (max i j - j)) ∙ ap (λ (k : ℕ). cmp_op op (raised y (k - j)) (raised x (k - i))) e

-- one day, by what is found at the place

abbrev against : CmpOp → ℕ → ℤ → ℤ → ℤ → Bool → Watch
against op l t factor m wanted = record { label = l; offset = t; trial = Number op factor m; wanted = wanted }

against_day : (op : CmpOp) (l : ℕ) (t factor m : ℤ) (wanted : Bool) (k : Kind) (bound : Typed) (o : Option Value) (f : ℤ)
    → factor ≡ pos (10 ^ (max (scale_of_kind k) (scale_in bound) - scale_of_kind k)) → m ≡ number_in bound *ℤ pos (10 ^ (max (scale_of_kind k) (scale_in bound) - scale_in bound))
    → wanted_of wanted (truth_found (on_both (both_of (of_place k o l f) (Ok bound)) (compared op))) ≡ met_by (against op l t factor m wanted) o f
against_day op l t factor m wanted k bound None f p q = refl
against_day op l t factor m wanted k bound (Some v) f p q =
    ap₂ (λ (x y : ℤ). Ok (is_wanted wanted (cmp_op op (num v *ℤ x) y))) (sym p) (sym q)

is_against : (decls : Decls) (op : CmpOp) (l : ℕ) (t : ℤ) (bound : Typed) (wanted : Bool) (factor m : ℤ)
    → factor ≡ pos (10 ^ (max (scale_of_kind (kind_observed (declarations decls) l)) (scale_in bound) - scale_of_kind (kind_observed (declarations decls) l)))
    → m ≡ number_in bound *ℤ pos (10 ^ (max (scale_of_kind (kind_observed (declarations decls) l)) (scale_in bound) - scale_in bound))
    → IsAgainst op (observed_later decls l t) bound wanted (against op l t factor m wanted)
is_against decls op l t bound wanted factor m p q env f =
    against_day op l t factor m wanted (kind_observed (declarations decls) l) bound (held env (record { label = l; day = f +ℤ t })) (f +ℤ t) p q

pub against_found : (decls : Decls) (op : CmpOp) (l : ℕ) (t u : ℤ) (bound : Typed) (wanted : Bool) (factor m : ℤ) (k : Kind) (i j : ℕ) (by : Factors) → u ≡ t
    → k ≡ kind_observed (declarations decls) l → i ≡ scale_of_kind k → j ≡ scale_of_kind bound.kind → by ≡ factors i j → factor ≡ by.left → m ≡ number_in bound *ℤ by.right
    → IsAgainst op (observed_later decls l t) bound wanted (against op l u factor m wanted)
against_found decls op l t u bound wanted factor m k i j by same kind_is i_is j_is by_is p q env f =
    let scale : i ≡ scale_of_kind (kind_observed (declarations decls) l) = i_is ∙ ap (λ (o : Kind). scale_of_kind o) kind_is in
    let all : by ≡ factors (scale_of_kind (kind_observed (declarations decls) l)) (scale_in bound) = by_is ∙ ap₂ factors scale j_is in
    ap (λ (x : ℤ). wanted_of wanted (truth_found (on_both (both_of (observation (declarations decls) env l (f +ℤ x)) (Ok bound)) (compared op)))) (sym same)
    ∙ is_against decls op l u bound wanted factor m (p ∙ ap (λ (c : Factors). c.left) all) (q ∙ ap (λ (c : Factors). number_in bound *ℤ c.right) all) env f

-- what is so of each that was found is so of what may have been found

pub some_too : (o : Option Watch) (P Q : Watch → Type 0) → ((w : Watch) → P w → Q w) → IfSome o P → IfSome o Q
some_too (Some w) P Q go h = go w h
some_too None P Q go h = h

pub stop_too : (o : Option Stop) (P Q : Stop → Type 0) → ((s : Stop) → P s → Q s) → IfSome o P → IfSome o Q
stop_too (Some s) P Q go h = go s h
stop_too None P Q go h = h

-- what stays the same may stand on either side

pub left_watched : (decls : Decls) (op : CmpOp) (a b : Expression) (wanted : Bool) (names : Bindings) (v : Typed) (w : Watch)
    → Stands b (bindings names) v → IsAgainst op (answer_in decls a names) v wanted w → IsWatched decls (Cmp op a b) wanted names w
left_watched decls op a b wanted names v w stands is env f =
    ap (λ (r : Answer). wanted_of wanted (truth_found (on_both (both_of (answer_in decls a names env f) r) (compared op)))) (stands decls env f) ∙ is env f

turned_day : (op : CmpOp) (v : Typed) (r : Answer) → truth_found (on_both (both_of (Ok v) r) (compared op)) ≡ truth_found (on_both (both_of r (Ok v)) (compared (turned op)))
turned_day op v (Err m) = refl
turned_day op v (Ok x) = ap (λ (b : Bool). Ok b) (sym (turned_scales op (scale_in x) (number_in x) (scale_in v) (number_in v)))

pub right_watched : (decls : Decls) (op to : CmpOp) (a b : Expression) (wanted : Bool) (names : Bindings) (v : Typed) (w : Watch) → to ≡ turned op
    → Stands a (bindings names) v → IsAgainst to (answer_in decls b names) v wanted w → IsWatched decls (Cmp op a b) wanted names w
right_watched decls op to a b wanted names v w turns stands is env f =
    ap (λ (r : Answer). wanted_of wanted (truth_found (on_both (both_of r (answer_in decls b names env f)) (compared op)))) (stands decls env f)
    ∙ ap (wanted_of wanted) (turned_day op v (answer_in decls b names env f))
    ∙ subst (λ (o : CmpOp). IsAgainst o (answer_in decls b names) v wanted w) turns is env f

-- a flag

flag_day : (l : ℕ) (t : ℤ) (wanted : Bool) (k : Kind) (o : Option Value) (f : ℤ) → wanted_of wanted (truth_found (of_place k o l f)) ≡ met_by (record { label = l; offset = t; trial = Flag; wanted = wanted }) o f
flag_day l t wanted k None f = refl
flag_day l t wanted k (Some v) f = refl

pub flag_watched : (decls : Decls) (l : ℕ) (t : ℤ) (wanted : Bool) (names : Bindings) → IsWatched decls (Obs l t) wanted names (record { label = l; offset = t; trial = Flag; wanted = wanted })
flag_watched decls l t wanted names env f =
    flag_day l t wanted (kind_observed (declarations decls) l) (held env (record { label = l; day = f +ℤ t })) (f +ℤ t)

-- a day that stands in a run at an index

pub stands_there : (run : List FixedDay) (i : ℕ) (t : ℤ) (d : FixedDay) → i < length run → (slice_index_or run i d).day ≡ t → Contains run (record { day = t; value = (slice_index_or run i d).value })
stands_there run i t d within day =
    let v = (slice_index_or run i d).value in
    (i, within, same_read run i (record { day = t; value = v }) d within ∙ ap (λ (u : ℤ). record { day = u; value = v }) day)

pub met_there : (w : Watch) (env : Environment) (run : List FixedDay) (i : ℕ) (t : ℤ) (d : FixedDay) (b : Bool) → LendsDays env w.label run → i < length run → (slice_index_or run i d).day ≡ t
    → b ≡ is_met w (slice_index_or run i d).value → Ok b ≡ met_on w env t
met_there w env run i t d b lends within day is =
    ap (λ (c : Bool). Ok c) is ∙ ap (λ (o : Option Value). met_by w o t) (sym ((lends t (slice_index_or run i d).value).0 (stands_there run i t d within day)))

-- one day after another

pub watch_stops : (decls : Decls) (e : Expression) (wanted : Bool) (names : Bindings) (w : Watch) (env : Environment) (from first : ℤ) (n : ℕ) (s : Stop)
    → IsWatched decls e wanted names w → first ≡ from +ℤ w.offset → s ≡ first_stop n (λ i. met_on w env (first +ℤ pos i)) → IsStop decls e wanted names env from n s
watch_stops decls e wanted names w env from first n s watched day is =
    is ∙ same_stop n (λ i. met_on w env (first +ℤ pos i)) (λ i. met_in decls e wanted names env from i) (λ i l. ap (λ (t : ℤ). met_on w env t) (moved i) ∙ sym (watched env (from +ℤ pos i)))
  where
    moved : (i : ℕ) → first +ℤ pos i ≡ from +ℤ pos i +ℤ w.offset
    moved i = omega (arith, ints, day)

pub flag_stops : (l : ℕ) (t : ℤ) (wanted : Bool) (env : Environment) (from first : ℤ) (n : ℕ) (s : Stop) → first ≡ from +ℤ t
    → s ≡ first_stop n (λ i. met_on (record { label = l; offset = t; trial = Flag; wanted = wanted }) env (first +ℤ pos i)) → IsFlagStop l t wanted env from n s
flag_stops l t wanted env from first n s day is decls names =
    watch_stops decls (Obs l t) wanted names (record { label = l; offset = t; trial = Flag; wanted = wanted }) env from first n s (flag_watched decls l t wanted names) day is

-- the day i, which is t, of some days

module _ (w : Watch) (env : Environment) (first : ℤ) (n i : ℕ) (t : ℤ) (r : TruthOrMissing) (within : i < n)
    (before : first_stop i (λ k. met_on w env (first +ℤ pos k)) ≡ Never) (day : t ≡ first +ℤ pos i) (is : r ≡ met_on w env t) where
  on_day : met_on w env (first +ℤ pos i) ≡ r
  on_day = ap (λ (u : ℤ). met_on w env u) (sym day) ∙ sym is

  pub watch_lacks : (m : Missing) → r ≡ Err m → Lacking i m ≡ first_stop n (λ k. met_on w env (first +ℤ pos k))
  watch_lacks m lacks = sym (stops_lacking n i (λ k. met_on w env (first +ℤ pos k)) m within before (on_day ∙ lacks))

  pub watch_meets : (b : Bool) → r ≡ Ok b → b ≡ true → Met i ≡ first_stop n (λ k. met_on w env (first +ℤ pos k))
  watch_meets b found holds =
      sym (stops_met n i (λ k. met_on w env (first +ℤ pos k)) within before (on_day ∙ found ∙ ap (λ (c : Bool). Ok c) holds))

  pub watch_goes_on : (b : Bool) → r ≡ Ok b → b ≡ false → first_stop (i + 1) (λ k. met_on w env (first +ℤ pos k)) ≡ Never
  watch_goes_on b found fails =
      stops_not i (λ k. met_on w env (first +ℤ pos k)) before (on_day ∙ found ∙ ap (λ (c : Bool). Ok c) fails)
