-- A day of an accumulator that stays level and adds what one observable and literals make.
use Rattle.std.proofs.Common.{◌≡◌, ℕ, ◌+◌, ℤ, pos, ◌+ℤ◌, true, Option, Some, None, Ok, List, ◌∷◌, refl, ap, ap₂, sym, subst, ◌∙◌, arith}
use Rattle.std.specs.Prelude.{Contains}
use Rattle.std.proofs.lemmas.Bool.Decides.{Decides-int_eq}
use Rattle.std.proofs.lemmas.Int.{ints}
use Rattle.term_model.specs.Declarations.{Declarations, declarations}
use Rattle.term_model.specs.declared.terms.NumOp.TheVariants.{Plus}
use Rattle.term_model.specs.declared.values.Kind.{Kind}
use Rattle.term_model.specs.declared.values.Value.{Value}
use Rattle.term_model.specs.declared.values.Value.TheVariants.{Num as Amount, Truth}
use Rattle.term_model.specs.Terms.{Expression, Lit, Yes, Var, Obs, Neg, Num, Cmp, Not, Logic, Cond, Widen, Round, Div, Acc}
use Rattle.term_model.specs.Environments.{Environment, held}
use Rattle.term_model.specs.Values.{num}
use Rattle.fixing_files.specs.Runs.{LendsDays}
use Rattle.fixing_files.specs.declared.runs.FixedDay.{FixedDay}
use Rattle.expr_eval.specs.declared.scratch.Binding.{Binding}
use Rattle.expr_eval.specs.declared.operations.Typed.{Typed}
use Rattle.expr_eval.specs.declared.sums.Observed.{Observed}
use Rattle.expr_eval.specs.Rooms.{kinds_of}
use Rattle.expr_eval.specs.Operations.{number_in, scale_in}
use Rattle.expr_eval.specs.Bindings.{bindings}
use Rattle.expr_eval.specs.Comparing.{number_found}
use Rattle.expr_eval.specs.Runs.{bound_to, day_step, kind_observed, of_place, run_of}
use Rattle.expr_eval.specs.Levels.{is_amount, is_level, stays_level}
use Rattle.expr_eval.specs.Sums.{IsSum, adding, is_over, made}
use Rattle.expr_eval.proofs.Days.{days_tried-more}
use Rattle.expr_eval.proofs.LevelFacts.{body_level, both_true, level_day, operands_combined, same_scale}

-- what an expression over one observable comes to on a day on which that is fixed

place_made : (k : Kind) (o : Option Value) (l : ℕ) (t : ℤ) (v : Value) → o ≡ Some v → number_found (of_place k o l t) ≡ Ok (num v)
place_made k None l t v h = absurd (cc)
place_made k (Some w) l t v h = let same : w ≡ v = cc in ap (λ (x : Value). Ok (num x)) same

made_is : (d : Declarations) (e : Expression) (g : List Binding) (F : Environment) (f : ℤ) (s : ℕ) (o : Observed) (v : Value) → is_over o e ≡ true → is_level d e (kinds_of g) s ≡ true → held F (record { label = o.label; day = f +ℤ o.offset }) ≡ Some v
    → number_found (run_of d e g F f) ≡ Ok (made e (num v))
made_is d (Lit m i) g F f s o v over level is = refl
made_is d (Obs l t) g F f s o v over level is =
    let p = both_true _ _ over in
    let label : l ≡ o.label = same_scale l o.label p.0 in
    let offset : t ≡ o.offset = (Decides-int_eq t o.offset).0 p.1 in
    place_made (kind_observed d l) (held F (record { label = l; day = f +ℤ t })) l (f +ℤ t) v
    (ap₂ (λ (n : ℕ) (z : ℤ). held F (record { label = n; day = f +ℤ z })) label offset ∙ is)
made_is d (Num op a b) g F f s o v over level is =
    let p = both_true _ _ over in
    let q = both_true _ _ (both_true _ _ level).1 in
    sym (operands_combined d op a b g F f s level (made a (num v)) (made b (num v)) (made_is d a g F f s o v p.0 q.0 is) (made_is d b g F f s o v p.1 q.1 is))
made_is d (Yes b) g F f s o v over level is = absurd (cc)
made_is d (Var n) g F f s o v over level is = absurd (cc)
made_is d (Neg a) g F f s o v over level is = absurd (cc)
made_is d (Cmp op a b) g F f s o v over level is = absurd (cc)
made_is d (Not a) g F f s o v over level is = absurd (cc)
made_is d (Logic op a b) g F f s o v over level is = absurd (cc)
made_is d (Cond t a b) g F f s o v over level is = absurd (cc)
made_is d (Widen i a) g F f s o v over level is = absurd (cc)
made_is d (Round mode i a) g F f s o v over level is = absurd (cc)
made_is d (Div mode i a b) g F f s o v over level is = absurd (cc)
made_is d (Acc body n first) g F f s o v over level is = absurd (cc)

-- the days of an accumulator that adds such an expression

part_level : (d : Declarations) (part : Expression) (ks : List Kind) (s : ℕ) → is_level d (adding part) ks s ≡ true → is_level d part ks s ≡ true
part_level d part ks s h = let p = both_true (is_level d (Var 0) ks s) (is_level d part ks s) h in p.1

amount_is : (v : Typed) → is_amount v.value ≡ true → v ≡ record { kind = v.kind; value = Amount (number_in v) }
amount_is v h = ap (λ (x : Value). record { kind = v.kind; value = x }) (value_is v.value h)
  where
    value_is : (x : Value) → is_amount x ≡ true → x ≡ Amount (num x)
    value_is (Amount m) p = refl
    value_is (Truth b) p = absurd (cc)

pub sum_starts : (part : Expression) (start : Typed) (F : Environment) (from sum : ℤ) → sum ≡ num start.value → IsSum part start F from 0 sum
sum_starts part start F from sum is decls names stays =
    ap (λ (v : Typed). Ok v) (amount_is start (both_true _ _ stays).0 ∙ ap (λ (m : ℤ). record { kind = start.kind; value = Amount m }) (sym is))

sum_goes_on : (part : Expression) (o : Observed) (start : Typed) (F : Environment) (from : ℤ) (i : ℕ) (sum : ℤ) (v : Value) → is_over o part ≡ true → held F (record { label = o.label; day = from +ℤ pos (i + 1) +ℤ o.offset }) ≡ Some v
    → IsSum part start F from i sum → IsSum part start F from (i + 1) (sum +ℤ made part (num v))
sum_goes_on part o start F from i sum v over is before decls names stays =
    let d = declarations decls in
    let g = bindings names in
    let body : Expression = adding part in
    let t : ℤ = from +ℤ pos (i + 1) in
    let now : Typed = record { kind = start.kind; value = Amount sum } in
    let still : stays_level d body g now ≡ true = (both_true _ _ stays).1 in
    let level = body_level d body g now still in
    let more = made_is d part (bound_to now ∷ g) F t (scale_in now) o v over (part_level d part (kinds_of (bound_to now ∷ g)) (scale_in now) level) is in
    days_tried-more i (day_step (λ h u. run_of d body h F u) g from) (Ok start) now (before decls names stays)
    ∙ level_day d body g now still F t (sum +ℤ made part (num v)) (sym (operands_combined d Plus (Var 0) part (bound_to now ∷ g) F t (scale_in now) level sum (made part (num v)) refl more))

-- a day that stands in the label's run

pub next_sum : (part : Expression) (o : Observed) (start : Typed) (F : Environment) (run : List FixedDay) (from first t : ℤ) (i : ℕ) (sum more next : ℤ) (v : Value) → is_over o part ≡ true → LendsDays F o.label run
    → first ≡ from +ℤ pos 1 +ℤ o.offset → t ≡ first +ℤ pos i → Contains run (record { day = t; value = v })
    → more ≡ made part (num v) → next ≡ sum +ℤ more → IsSum part start F from i sum → IsSum part start F from (i + 1) next
next_sum part o start F run from first t i sum more next v over lends starts day there is adds before =
    let same : t ≡ from +ℤ pos (i + 1) +ℤ o.offset = omega (arith, ints, starts, day) in
    let found = (lends (from +ℤ pos (i + 1) +ℤ o.offset) v).0 (subst (λ (x : ℤ). Contains run (record { day = x; value = v })) same there) in
    subst (λ (x : ℤ). IsSum part start F from (i + 1) x) (sym (adds ∙ ap (λ (x : ℤ). sum +ℤ x) is)) (sum_goes_on part o start F from i sum v over found before)
