-- A specialised expression reads nothing that the expression does not read.
use Rattle.std.proofs.Common.{◌≡◌, ℕ, suc, ℤ, pos, ◌+ℤ◌, ◌-ℤ◌, Option, None, List, ◌∷◌, [], ◌++◌, refl, ap, ap₂, arith}
use Rattle.std.proofs.lemmas.Int.{ints}
use Rattle.term_model.specs.Declarations.{Declarations}
use Rattle.term_model.specs.declared.values.Kind.{Kind}
use Rattle.term_model.specs.declared.values.Value.{Value}
use Rattle.term_model.specs.Terms.{Expression, Lit, Yes, Var, Obs, Neg, Num, Cmp, Not, Logic, Cond, Widen, Round, Div, Acc}
use Rattle.term_model.specs.Environments.{Environment, Place}
use Rattle.term_model.specs.Kinds.{kind_of, scale_of, scale_of_kind}
use Rattle.term_model.specs.Values.{Entry, kinds, truth, widened, kind_or, value_of, days_run}
use Rattle.term_model.specs.Reads.{reads_of, steps_before, decides}
use Rattle.term_model.specs.Redexes.{moved}
use Rattle.term_model.proofs.ShiftFacts.{same_days}
use Rattle.rewriting.proofs.Among.{among_none, among_same, among_both, then_among, among_steps, one_name_more, among_chosen}
use Rattle.rewriting.specs.Replacing.{literal_of}
use Rattle.specialise.specs.Specialising.{specialised}
use Rattle.specialise.specs.LawsSpecial.{SpecialisedReads}
use Rattle.specialise.specs.Specialised.{IsOn, MayCome}
use Rattle.rewriting.specs.Keeping.{AreAmong}
use Rattle.specialise.proofs.ToldFacts.{told_cases, literal_reads}
use Rattle.specialise.proofs.SpecialValues.{special_kind, special_scale, special_value, on_moved}

-- the value on the way of an accumulator
pub special_run : (d : Declarations) (F : Environment) (o : Option ℤ) (body first : Expression) (n j : ℕ) (g : List Entry) (env : Environment) (f : ℤ) → MayCome d F env → IsOn o f
    → (let kind = kind_or (kind_of d first (kinds g)) in
    days_run j (λ i v. widened (scale_of d (specialised d F None body) (kind ∷ kinds g)) (scale_of_kind kind) (value_of d (specialised d F None body) (record { value = v; kind = kind } ∷ g) env (f -ℤ pos n +ℤ pos i))) (value_of d (specialised d F (moved (pos 0 -ℤ pos n) o) first) g env (f -ℤ pos n))
    ≡ days_run j (λ i v. widened (scale_of d body (kind ∷ kinds g)) (scale_of_kind kind) (value_of d body (record { value = v; kind = kind } ∷ g) env (f -ℤ pos n +ℤ pos i))) (value_of d first g env (f -ℤ pos n)))
special_run d F o body first n j g env f a i =
    same_days j _ _ _ _ (special_value d F (moved (pos 0 -ℤ pos n) o) first g env (f -ℤ pos n) a (on_moved o f _ _ (omega (arith, ints)) i)) (λ l v.
    let kind = kind_or (kind_of d first (kinds g)) in
    let entry : Entry = record { value = v; kind = kind } in
    ap₂ (λ (s : ℕ) (u : Value). widened s (scale_of_kind kind) u) (special_scale d F None body (kind ∷ kinds g)) (special_value d F None body (entry ∷ g) env (f -ℤ pos n +ℤ pos l) a tt))

pub literal_among : (d : Declarations) (k : Kind) (v : Value) (g : List Entry) (bs : List (List Place)) (env : Environment) (f : ℤ) (ys : List Place) → AreAmong (reads_of d (literal_of k v) g bs env f) ys
literal_among d k v g bs env f ys = then_among _ [] ys (among_same _ [] (literal_reads d k v g bs env f)) (among_none ys)

-- an expression with fewer places for its names
pub special_reads : SpecialisedReads
special_reads d F o (Lit m s) g bs cs env f a i h = among_none []
special_reads d F o (Yes b) g bs cs env f a i h = among_none []
special_reads d F o (Var back) g bs cs env f a i h = h back
special_reads d F o (Obs l t) g bs cs env f a i h =
    told_cases (λ y. AreAmong (reads_of d y g bs env f) (reads_of d (Obs l t) g cs env f)) d F o (Obs l t) (Obs l t) (λ h k e. literal_among d k (value_of d (Obs l t) [] F h) g bs env f (reads_of d (Obs l t) g cs env f)) (λ _. among_same (reads_of d (Obs l t) g bs env f) (reads_of d (Obs l t) g cs env f) refl)
special_reads d F o (Neg e) g bs cs env f a i h = special_reads d F o e g bs cs env f a i h
special_reads d F o (Num op x y) g bs cs env f a i h = among_both _ _ _ _ (special_reads d F o x g bs cs env f a i h) (special_reads d F o y g bs cs env f a i h)
special_reads d F o (Cmp op x y) g bs cs env f a i h = among_both _ _ _ _ (special_reads d F o x g bs cs env f a i h) (special_reads d F o y g bs cs env f a i h)
special_reads d F o (Not e) g bs cs env f a i h = special_reads d F o e g bs cs env f a i h
special_reads d F o (Logic op x y) g bs cs env f a i h =
    among_both _ _ _ _ (special_reads d F o x g bs cs env f a i h) (among_chosen _ _ [] [] _ _ (ap (λ (v : Value). decides op (truth v)) (special_value d F o x g env f a i)) (among_none []) (special_reads d F o y g bs cs env f a i h))
special_reads d F o (Cond t x y) g bs cs env f a i h =
    among_both _ _ _ _ (special_reads d F o t g bs cs env f a i h) (among_chosen _ _ _ _ _ _ (ap truth (special_value d F o t g env f a i)) (special_reads d F o x g bs cs env f a i h) (special_reads d F o y g bs cs env f a i h))
special_reads d F o (Widen s e) g bs cs env f a i h = special_reads d F o e g bs cs env f a i h
special_reads d F o (Round mode s e) g bs cs env f a i h = special_reads d F o e g bs cs env f a i h
special_reads d F o (Div mode s x y) g bs cs env f a i h = among_both _ _ _ _ (special_reads d F o x g bs cs env f a i h) (special_reads d F o y g bs cs env f a i h)
special_reads d F o (Acc body n first) g bs cs env f a i h =
    let ks = kinds g in
    let from = f -ℤ pos n in
    let body' = specialised d F None body in
    let first' = specialised d F (moved (pos 0 -ℤ pos n) o) first in
    let before : Kind → ℕ → Value = λ kind j. days_run j (λ i v. widened (scale_of d body' (kind ∷ ks)) (scale_of_kind kind) (value_of d body' (record { value = v; kind = kind } ∷ g) env (from +ℤ pos i))) (value_of d first' g env from) in
    let run : Option Kind → List Place = λ r. reads_of d first' g bs env from ++ steps_before n (λ j. reads_of d body' (record { value = before (kind_or r) j; kind = kind_or r } ∷ g) ([] ∷ bs) env (from +ℤ pos (suc j))) in
    let kind = kind_or (kind_of d first ks) in
    told_cases (λ y. AreAmong (reads_of d y g bs env f) (reads_of d (Acc body n first) g cs env f)) d F o (Acc body n first) (Acc body' n first') (λ h k e. literal_among d k (value_of d (Acc body n first) [] F h) g bs env f (reads_of d (Acc body n first) g cs env f))
    (λ _. then_among _ _ _ (among_same _ _ (ap run (special_kind d F (moved (pos 0 -ℤ pos n) o) first ks)))
    (among_both _ _ _ _ (special_reads d F (moved (pos 0 -ℤ pos n) o) first g bs cs env from a (on_moved o f _ _ (omega (arith, ints)) i) h)
    (among_steps n _ _ (λ j.
    let entry : Value → Entry = λ v. record { value = v; kind = kind } in
    then_among _ _ _ (special_reads d F None body (entry (before kind j) ∷ g) ([] ∷ bs) ([] ∷ cs) env (from +ℤ pos (suc j)) a tt (one_name_more [] [] bs cs (among_none []) h))
    (among_same _ _ (ap (λ (v : Value). reads_of d body (entry v ∷ g) ([] ∷ cs) env (from +ℤ pos (suc j))) (special_run d F o body first n j g env f a i)))))))
