-- Values are compared.
use Rattle.std.proofs.Common.{◌≡◌, ◌≢◌, Bool, true, false, refl, sym, ap, subst}
use Rattle.std.proofs.lemmas.Bool.Decides.{Decides-int_eq}
use Rattle.term_model.specs.declared.values.Value.{Value}
use Rattle.fixing_files.specs.Rows.{same_truth, same_value}
use Rattle.term_model.specs.declared.values.Value.TheVariants.{Num as Amount, Truth}

truths : (a b : Bool) → same_truth a b ≡ true → a ≡ b
truths true b h = sym h
truths false true h = absurd (cc)
truths false false h = refl

truth_itself : (a : Bool) → same_truth a a ≡ true
truth_itself true = refl
truth_itself false = refl

pub same_from : (v w : Value) → same_value v w ≡ true → v ≡ w
same_from (Amount m) (Amount n) h = ap (λ x. Amount x) ((Decides-int_eq m n).0 h)
same_from (Truth a) (Truth b) h = ap (λ x. Truth x) (truths a b h)
same_from (Amount m) (Truth b) h = absurd (cc)
same_from (Truth a) (Amount n) h = absurd (cc)

same_itself : (v : Value) → same_value v v ≡ true
same_itself (Amount m) = (Decides-int_eq m m).1 refl
same_itself (Truth a) = truth_itself a

pub differ : (v w : Value) → same_value v w ≡ false → v ≢ w
differ v w h e = let same : same_value v w ≡ true = subst (λ (x : Value). same_value v x ≡ true) e (same_itself v) in absurd (cc)
