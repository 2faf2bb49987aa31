-- Reads without a name.
use Rattle.std.proofs.Common.{◌≡◌, ℕ, suc, ℤ, pos, ◌+ℤ◌, ◌-ℤ◌, ◌+◌, Bool, true, ◌||◌, ◌==◌, if◌then◌else◌, int_lt, Option, Some, None, List, [], ◌∷◌, ◌++◌, slice_get, refl, ap, ap₂, sym, ◌∙◌}
use Rattle.term_model.specs.Declarations.{Declarations}
use Rattle.term_model.specs.declared.values.Kind.{Kind}
use Rattle.term_model.specs.declared.values.Value.{Value}
use Rattle.term_model.specs.Terms.{Expression, Lit, Yes, Var, Obs, Neg, Num, Cmp, Not, Logic, Cond, Widen, Round, Div, Acc}
use Rattle.term_model.specs.Terms.{Contract, Zero, Pay, Both, Scale, After, Let, Within}
use Rattle.term_model.specs.Environments.{Environment, Place}
use Rattle.term_model.specs.Kinds.{kind_of, scale_of, scale_of_kind}
use Rattle.term_model.specs.Values.{Entry, kinds, truth, widened, kind_or, value_of, days_run, first_true}
use Rattle.term_model.specs.Flows.{count_of}
use Rattle.term_model.specs.Reads.{reads_of, reads_of_contract, live, places_or, steps_before, decides, upto, tested}
use Rattle.term_model.specs.Redexes.{uses, uses_in_contract}
use Rattle.term_model.proofs.ReadShiftFacts.{same_steps, appended, chosen}
use Rattle.term_model.proofs.ShiftFacts.{same_days}
use Rattle.rewriting.specs.Substituting.{substituted, substituted_in, without}
use Rattle.rewriting.specs.LawsNames.{HasKindOf, HasValueOf, ReadsWithoutName, ContractReadsWithoutName}
use Rattle.rewriting.proofs.NameLists.{get_before, get_past, name_cases, on_left, on_right, eq_is}
use Rattle.rewriting.proofs.NameKinds.{in_body, kind_here, scale_here}
use Rattle.rewriting.proofs.NameValues.{value_without}
use Rattle.rewriting.proofs.Branches.{same_test, branch_reads}
use Rattle.rewriting.proofs.NameFlows.{under, first_without, entry_without}

pub reads_without : ReadsWithoutName
reads_without d (Lit m s) j x g bs env f h v r = refl
reads_without d (Yes b) j x g bs env f h v r = refl
reads_without d (Var back) j x g bs env f h v r =
    name_cases (λ e. reads_of d e (without j g) (without j bs) env f ≡ places_or (slice_get bs back)) j x back
    (λ lt. ap places_or (get_before j back bs lt))
    (λ e. r (ap (λ (k : ℕ). back == k) (sym e) ∙ eq_is back) (without j g) (without j bs) env f ∙ ap (λ (k : ℕ). places_or (slice_get bs k)) (sym e))
    (λ k e le. ap places_or (get_past j k bs le) ∙ ap (λ (i : ℕ). places_or (slice_get bs i)) (sym e))
reads_without d (Obs l t) j x g bs env f h v r = refl
reads_without d (Neg e) j x g bs env f h v r = reads_without d e j x g bs env f h v r
reads_without d (Num op a b) j x g bs env f h v r =
    let ua = uses j a in
    let ub = uses j b in
    appended _ _ _ _ (reads_without d a j x g bs env f (on_left ua ub h) (on_left ua ub v) (on_left ua ub r)) (reads_without d b j x g bs env f (on_right ua ub h) (on_right ua ub v) (on_right ua ub r))
reads_without d (Cmp op a b) j x g bs env f h v r =
    let ua = uses j a in
    let ub = uses j b in
    appended _ _ _ _ (reads_without d a j x g bs env f (on_left ua ub h) (on_left ua ub v) (on_left ua ub r)) (reads_without d b j x g bs env f (on_right ua ub h) (on_right ua ub v) (on_right ua ub r))
reads_without d (Not e) j x g bs env f h v r = reads_without d e j x g bs env f h v r
reads_without d (Logic op a b) j x g bs env f h v r =
    let ua = uses j a in
    let ub = uses j b in
    appended _ _ _ _ (reads_without d a j x g bs env f (on_left ua ub h) (on_left ua ub v) (on_left ua ub r)) (chosen _ _ [] [] _ _ (ap (λ (u : Value). decides op (truth u)) (value_without d a j x g env f (on_left ua ub h) (on_left ua ub v))) refl (reads_without d b j x g bs env f (on_right ua ub h) (on_right ua ub v) (on_right ua ub r)))
reads_without d (Cond t a b) j x g bs env f h v r =
    let ut = uses j t in
    let ua = uses j a in
    let ub = uses j b in
    let hr = on_right ut (ua || ub) h in
    let vr = on_right ut (ua || ub) v in
    let rr = on_right ut (ua || ub) r in
    appended _ _ _ _ (reads_without d t j x g bs env f (on_left ut (ua || ub) h) (on_left ut (ua || ub) v) (on_left ut (ua || ub) r))
    (chosen _ _ _ _ _ _ (ap truth (value_without d t j x g env f (on_left ut (ua || ub) h) (on_left ut (ua || ub) v))) (reads_without d a j x g bs env f (on_left ua ub hr) (on_left ua ub vr) (on_left ua ub rr)) (reads_without d b j x g bs env f (on_right ua ub hr) (on_right ua ub vr) (on_right ua ub rr)))
reads_without d (Widen s e) j x g bs env f h v r = reads_without d e j x g bs env f h v r
reads_without d (Round mode s e) j x g bs env f h v r = reads_without d e j x g bs env f h v r
reads_without d (Div mode s a b) j x g bs env f h v r =
    let ua = uses j a in
    let ub = uses j b in
    appended _ _ _ _ (reads_without d a j x g bs env f (on_left ua ub h) (on_left ua ub v) (on_left ua ub r)) (reads_without d b j x g bs env f (on_right ua ub h) (on_right ua ub v) (on_right ua ub r))
reads_without d (Acc body n first) j x g bs env f h v r =
    let ub = uses (j + 1) body in
    let uf = uses j first in
    let hf = on_right ub uf h in
    let vf = on_right ub uf v in
    let hb = in_body j body uf h in
    let vb = in_body j body uf v in
    let rb = in_body j body uf r in
    let gs = without j g in
    let cs = without j bs in
    let from = f -ℤ pos n in
    let before : Kind → ℕ → Value = λ kind i. days_run i (λ i v. widened (scale_of d (substituted (suc j) x body) (kind ∷ kinds gs)) (scale_of_kind kind) (value_of d (substituted (suc j) x body) (record { value = v; kind = kind } ∷ gs) env (from +ℤ pos i))) (value_of d (substituted j x first) gs env from) in
    let run : Option Kind → List Place = λ o. reads_of d (substituted j x first) gs cs env from ++ steps_before n (λ i. reads_of d (substituted (suc j) x body) (record { value = before (kind_or o) i; kind = kind_or o } ∷ gs) ([] ∷ cs) env (from +ℤ pos (suc i))) in
    ap run (kind_here d first j x g hf)
    ∙ appended _ _ _ _ (reads_without d first j x g bs env from hf vf (on_right ub uf r)) (same_steps n _ _ (λ i.
    let kind = kind_or (kind_of d first (kinds g)) in
    reads_without d body (suc j) x (record { value = before kind i; kind = kind } ∷ g) ([] ∷ bs) env (from +ℤ pos (suc i)) hb vb rb
    ∙ ap (λ (u : Value). let entry : Entry = record { value = u; kind = kind } in reads_of d body (entry ∷ g) ([] ∷ bs) env (from +ℤ pos (suc i)))
    (same_days i _ _ _ _ (value_without d first j x g env from hf vf) (λ i' u.
    let entry : Entry = record { value = u; kind = kind } in
    ap₂ (λ (s : ℕ) (z : Value). widened s (scale_of_kind kind) z) (scale_here d body (suc j) x (entry ∷ g) hb) (value_without d body (suc j) x (entry ∷ g) env (from +ℤ pos i') hb vb)))))

pub live_without : (d : Declarations) (c : Contract) (j : ℕ) (x : Expression) (g : List Entry) (env : Environment) (f a b : ℤ)
    → (uses_in_contract j c ≡ true → HasKindOf d x (kinds g) j) → (uses_in_contract j c ≡ true → HasValueOf d x g j)
    → live d (substituted_in j x c) (without j g) env f a b ≡ live d c g env f a b
live_without d Zero j x g env f a b h v = refl
live_without d (Pay s p q) j x g env f a b h v = refl
live_without d (Both p q) j x g env f a b h v =
    let up = uses_in_contract j p in
    let uq = uses_in_contract j q in
    ap₂ (λ (s t : Bool). s || t) (live_without d p j x g env f a b (on_left up uq h) (on_left up uq v)) (live_without d q j x g env f a b (on_right up uq h) (on_right up uq v))
live_without d (Scale e c) j x g env f a b h v =
    live_without d c j x g env f a b (on_right (uses j e) (uses_in_contract j c) h) (on_right (uses j e) (uses_in_contract j c) v)
live_without d (After m c) j x g env f a b h v = live_without d c j x g env (f +ℤ pos (count_of m)) (a -ℤ pos (count_of m)) (b -ℤ pos (count_of m)) h v
live_without d (Let e c) j x g env f a b h v =
    ap (λ (entry : Entry). live d (substituted_in (suc j) x c) (entry ∷ without j g) env f a b) (entry_without d e j x g env f (on_left (uses j e) (uses_in_contract (j + 1) c) h) (on_left (uses j e) (uses_in_contract (j + 1) c) v))
    ∙ live_without d c (suc j) x (record { value = value_of d e g env f; kind = kind_or (kind_of d e (kinds g)) } ∷ g) env f a b (under j e c h) (under j e c v)
live_without d (Within e m p q) j x g env f a b h v =
    let ue = uses j e in
    let up = uses_in_contract j p in
    let uq = uses_in_contract j q in
    let hr = on_right ue (up || uq) h in
    let vr = on_right ue (up || uq) v in
    same_test _ (first_true d e g env f (count_of m)) _ _ _ _ (first_without d e j x g env f (count_of m) (on_left ue (up || uq) h) (on_left ue (up || uq) v))
    (λ k. live_without d p j x g env (f +ℤ pos k) (a -ℤ pos k) (b -ℤ pos k) (on_left up uq hr) (on_left up uq vr))
    (live_without d q j x g env (f +ℤ pos (count_of m)) (a -ℤ pos (count_of m)) (b -ℤ pos (count_of m)) (on_right up uq hr) (on_right up uq vr))

unless : (t : Bool) (xs ys : List Place) → xs ≡ ys → (if t then [] else xs) ≡ (if t then [] else ys)
unless t xs ys e = ap (λ (zs : List Place). if t then [] else zs) e

same_branches : (o u : Option ℕ) (n : ℕ) (b : ℤ) (x y : ℕ → List Place) (v w : List Place) → o ≡ u → ((k : ℕ) → x k ≡ y k) → v ≡ w → branch_reads o n b x v ≡ branch_reads u n b y w
same_branches (Some k) u n b x y v w e h i = unless (int_lt b (pos k)) _ _ (h k) ∙ ap (λ (r : Option ℕ). branch_reads r n b y w) e
same_branches None u n b x y v w e h i = unless (int_lt b (pos n)) _ _ i ∙ ap (λ (r : Option ℕ). branch_reads r n b y w) e

pub contract_reads_without : ContractReadsWithoutName
contract_reads_without d Zero j x g bs env f a b h v r = refl
contract_reads_without d (Pay s p q) j x g bs env f a b h v r = refl
contract_reads_without d (Both p q) j x g bs env f a b h v r =
    let up = uses_in_contract j p in
    let uq = uses_in_contract j q in
    appended _ _ _ _ (contract_reads_without d p j x g bs env f a b (on_left up uq h) (on_left up uq v) (on_left up uq r)) (contract_reads_without d q j x g bs env f a b (on_right up uq h) (on_right up uq v) (on_right up uq r))
contract_reads_without d (Scale e c) j x g bs env f a b h v r =
    let ue = uses j e in
    let uc = uses_in_contract j c in
    appended _ _ _ _ (contract_reads_without d c j x g bs env f a b (on_right ue uc h) (on_right ue uc v) (on_right ue uc r))
    (chosen _ _ _ _ [] [] (live_without d c j x g env f a b (on_right ue uc h) (on_right ue uc v)) (reads_without d e j x g bs env f (on_left ue uc h) (on_left ue uc v) (on_left ue uc r)) refl)
contract_reads_without d (After m c) j x g bs env f a b h v r =
    contract_reads_without d c j x g bs env (f +ℤ pos (count_of m)) (a -ℤ pos (count_of m)) (b -ℤ pos (count_of m)) h v r
contract_reads_without d (Let e c) j x g bs env f a b h v r =
    let ue = uses j e in
    let uc = uses_in_contract (j + 1) c in
    ap₂ (λ (entry : Entry) (ps : List Place). reads_of_contract d (substituted_in (suc j) x c) (entry ∷ without j g) (ps ∷ without j bs) env f a b) (entry_without d e j x g env f (on_left ue uc h) (on_left ue uc v)) (reads_without d e j x g bs env f (on_left ue uc h) (on_left ue uc v) (on_left ue uc r))
    ∙ contract_reads_without d c (suc j) x (record { value = value_of d e g env f; kind = kind_or (kind_of d e (kinds g)) } ∷ g) (reads_of d e g bs env f ∷ bs) env f a b (under j e c h) (under j e c v) (under j e c r)
contract_reads_without d (Within e m p q) j x g bs env f a b h v r =
    let n = count_of m in
    let ue = uses j e in
    let up = uses_in_contract j p in
    let uq = uses_in_contract j q in
    let hr = on_right ue (up || uq) h in
    let vr = on_right ue (up || uq) v in
    let rr = on_right ue (up || uq) r in
    let first = first_without d e j x g env f n (on_left ue (up || uq) h) (on_left ue (up || uq) v) in
    unless (int_lt b (pos 0)) _ _
    (appended _ _ _ _
    (ap (λ (o : Option ℕ). upto (tested o n b) (λ i. reads_of d (substituted j x e) (without j g) (without j bs) env (f +ℤ pos i))) first
    ∙ same_steps (suc (tested (first_true d e g env f n) n b)) _ _ (λ i. reads_without d e j x g bs env (f +ℤ pos i) (on_left ue (up || uq) h) (on_left ue (up || uq) v) (on_left ue (up || uq) r)))
    (same_branches _ (first_true d e g env f n) n b _ _ _ _ first
    (λ k. contract_reads_without d p j x g bs env (f +ℤ pos k) (a -ℤ pos k) (b -ℤ pos k) (on_left up uq hr) (on_left up uq vr) (on_left up uq rr))
    (contract_reads_without d q j x g bs env (f +ℤ pos n) (a -ℤ pos n) (b -ℤ pos n) (on_right up uq hr) (on_right up uq vr) (on_right up uq rr))))
