-- Residuals of residuals.
use Rattle.std.proofs.Common.{◌≡◌, ℕ, ℤ, pos, ◌+◌, ◌+ℤ◌, sym, subst, ap, ap₂, ◌∙◌, add_assoc, Contains, [], arith}
use Rattle.std.proofs.Math.IntN.{+ℤ_assoc}
use Rattle.std.proofs.lemmas.Int.{ints}
use Rattle.term_model.specs.Environments.{Environment, Extends}
use Rattle.term_model.specs.Flows.{amount_of}
use Rattle.term_model.specs.Reads.{reads_of_contract}
use Rattle.term_model.specs.LawsResiduals.{CarriesItself, CarriesComposes}

extends_both : (one two three : Environment) → Extends one two → Extends two three → Extends one three
extends_both one two three h k q v e = k q v (h q v e)

pub carries_itself : CarriesItself
carries_itself d c f fixings =
    let frame : f +ℤ pos 0 ≡ f = omega (arith, ints) in
    let later : (n : ℕ) → n ≡ 0 + n = λ n. omega arith in
    record {
      amounts = λ env a x n w. ap₂ (λ (g : ℤ) (i : ℕ). amount_of d c env g (pos i) w) frame (later n);
      reads = λ env a x b q h.
          subst (λ (i : ℕ). Contains (reads_of_contract d c [] [] env f (pos 0) (pos i)) q) (later b)
          (subst (λ (g : ℤ). Contains (reads_of_contract d c [] [] env g (pos 0) (pos b)) q) frame h);
    }

pub carries_composes : CarriesComposes
carries_composes d c rest last f fixings more m k h j x =
    let frame : (f +ℤ pos m) +ℤ pos k ≡ f +ℤ pos (m + k) = +ℤ_assoc f (pos m) (pos k) in
    record {
      amounts = λ env a y n w.
          ap (λ (g : ℤ). amount_of d last env g (pos n) w) (sym frame)
          ∙ j.amounts env a y n w
          ∙ h.amounts env a (extends_both fixings more env x y) (k + n) w
          ∙ ap (λ (i : ℕ). amount_of d c env f (pos i) w) (sym (add_assoc m k n));
      reads = λ env a y b q p.
          let there : Contains (reads_of_contract d last [] [] env (f +ℤ pos m +ℤ pos k) (pos 0) (pos b)) q = subst (λ (g : ℤ). Contains (reads_of_contract d last [] [] env g (pos 0) (pos b)) q) (sym frame) p in
          let between = h.reads env a (extends_both fixings more env x y) (k + b) q (j.reads env a y b q there) in
          subst (λ (i : ℕ). Contains (reads_of_contract d c [] [] env f (pos 0) (pos i)) q) (sym (add_assoc m k b)) between;
    }
