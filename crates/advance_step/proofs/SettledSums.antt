-- An accumulator stays where its start and its body do, and it is open.
use Rattle.std.proofs.Common.{◌≡◌, ◌≤◌, ℕ, ℤ, pos, ◌+ℤ◌, ◌-ℤ◌, ◌||◌, true, None, Some, sym, subst, ◌∙◌, arith}
use Rattle.std.proofs.lemmas.Int.{ints}
use Rattle.term_model.specs.Terms.{Expression, Acc}
use Rattle.term_model.specs.Environments.{Environment}
use Rattle.advance_step.specs.HandedOn.{IsSettled, lacks}

back : (f : ℤ) (n : ℕ) → f +ℤ (pos 0 -ℤ pos n) ≡ f -ℤ pos n
back f n = omega (arith, ints)

pub sum_settled : (F : Environment) (f s : ℤ) (body first : Expression) (n : ℕ) → s ≡ f -ℤ pos n → 1 ≤ n
    → (lacks F s first || lacks F (s +ℤ pos 1) body) ≡ true → IsSettled F None body → IsSettled F (Some s) first
    → IsSettled F (Some f) (Acc body n first)
sum_settled F f s body first n is some lack b h = (
  some,
  subst (λ (x : ℤ). (lacks F x first || lacks F (x +ℤ pos 1) body) ≡ true) is lack,
  b,
  subst (λ (x : ℤ). IsSettled F (Some x) first) (is ∙ sym (back f n)) h,
)
