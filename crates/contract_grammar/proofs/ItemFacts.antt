-- What an item of a sum is, by the tests that its reader makes.
use Rattle.std.proofs.Common.{◌≡◌, ℕ, ◌+◌, ◌-◌, ◌≤◌, ◌<◌, Bool, true, false, cond, ◌&&◌, Option, Some, None, Result, Ok, Err, List, length, refl, sym, ap, ◌∙◌, arith}
use Rattle.std.specs.Prelude.{nat_le}
use Rattle.std.proofs.lemmas.Bool.Decides.{nat_tests}
use Rattle.contract_grammar.specs.Tokens.{Tok}
use Rattle.contract_grammar.specs.Words.{Bytes, is_integer, is_name}
use Rattle.contract_grammar.specs.Judgements.{integer_at, or_fault, up_to, use_at, whole}
use Rattle.contract_grammar.specs.Sums.{Tally, item_at, with_number, with_use}
use Rattle.contract_grammar.specs.declared.faults.TextKind.{TextKind}
use Rattle.contract_grammar.specs.declared.faults.TextKind.TheVariants.{Number, Syntax}

by_integer : (p : Tally) (most : ℕ) (o : Option ℕ) (r : Result ℕ TextKind) → r ≡ or_fault Number o → (n : ℕ) → r ≡ Ok n → with_number p o ≡ Ok (record { number = p.number + n; names = p.names })
by_integer p most (Some m) r is n e = let same : m ≡ n = cc in ap (λ (k : ℕ). Ok (record { number = p.number + k; names = p.names })) same
by_integer p most None r is n e = absurd cc

by_fault : (p : Tally) (o : Option ℕ) (r : Result ℕ TextKind) → r ≡ or_fault Number o → (k : TextKind) → r ≡ Err k → with_number p o ≡ Err k
by_fault p (Some m) r is k e = absurd cc
by_fault p None r is k e = let same : Number ≡ k = cc in ap (λ (j : TextKind). Err j) same

module _ (templates : List Bytes) (p : Tally) (t : Tok) where
  pub item_number : (n : ℕ) → true ≡ is_integer t → Ok n ≡ integer_at (100_000 - p.number) t → Ok (record { number = p.number + n; names = p.names }) ≡ item_at templates p t
  item_number n is e =
      let here : integer_at (100_000 - p.number) t ≡ or_fault Number (up_to (100_000 - p.number) (whole t)) = rw (sym is) refl in
      rw (sym is) (sym (by_integer p (100_000 - p.number) (up_to (100_000 - p.number) (whole t)) (integer_at (100_000 - p.number) t) here n (sym e)))

  pub item_wide : (k : TextKind) → true ≡ is_integer t → Err k ≡ integer_at (100_000 - p.number) t → Err k ≡ item_at templates p t
  item_wide k is e =
      let here : integer_at (100_000 - p.number) t ≡ or_fault Number (up_to (100_000 - p.number) (whole t)) = rw (sym is) refl in
      rw (sym is) (sym (by_fault p (up_to (100_000 - p.number) (whole t)) (integer_at (100_000 - p.number) t) here k (sym e)))

  pub item_none : false ≡ is_integer t → false ≡ is_name t → Err Syntax ≡ item_at templates p t
  item_none is other = rw (sym is, sym other) refl

  many : (n : ℕ) → 4 ≤ n → nat_le 4 n ≡ true
  many n h = grind (arith, nat_tests)

  few : (n : ℕ) → n < 4 → nat_le 4 n ≡ false
  few n h = grind (arith, nat_tests)

  pub item_fifth : false ≡ is_integer t → true ≡ is_name t → 4 ≤ length p.names → Err Number ≡ item_at templates p t
  item_fifth is name h = rw (sym is, sym name, many (length p.names) h) refl

  pub item_use : (r : Result ℕ TextKind) → false ≡ is_integer t → length p.names < 4 → r ≡ use_at templates t → with_use p r ≡ item_at templates p t
  item_use r is h e =
      let used : item_at templates p t ≡ with_use p (use_at templates t) = by_tests (is_integer t) (is_name t) (nat_le 4 (length p.names)) (sym is) (few (length p.names) h) in
      ap (with_use p) e ∙ sym used
    where
      by_tests : (a b c : Bool) → a ≡ false → c ≡ false → cond a (with_number p (up_to (100_000 - p.number) (whole t))) (cond (b && c) (Err Number) (with_use p (use_at templates t))) ≡ with_use p (use_at templates t)
      by_tests a true c x z = rw (x, z) refl
      by_tests a false c x z = rw x refl
