-- Over more days a contract transfers and reads no less.
use Rattle.std.proofs.Common.{◌≡◌, ℕ, ℤ, pos, ◌+ℤ◌, ◌-ℤ◌, ◌≤ℤ◌, Bool, true, false, ◌&&◌, not, ◌==◌, int_lt, Option, Some, None, List, [], ◌∷◌, refl, inl, inr, arith}
use Rattle.std.proofs.lemmas.Int.{ints, by_lt_z}
use Rattle.term_model.specs.Declarations.{Declarations}
use Rattle.term_model.specs.Terms.{Contract, Zero, Pay, Both, Scale, After, Let, Within}
use Rattle.term_model.specs.Environments.{Environment, Place}
use Rattle.term_model.specs.Values.{Entry, first_true, entry_of}
use Rattle.term_model.specs.Flows.{count_of}
use Rattle.term_model.specs.Reads.{reads_of, reads_of_contract, live, upto, tested}
use Rattle.rewriting.specs.Keeping.{AreAmong}
use Rattle.rewriting.proofs.Among.{among_none, among_same, among_both, among_if, among_unless, among_branches}
use Rattle.simplify.proofs.RuleReads.{OnlyIf, below_is, not_below}
use Rattle.simplify.proofs.ContractTurnReads.{either}

below_sooner : (x a b : ℤ) → a ≤ℤ b → int_lt x b ≡ false → int_lt x a ≡ false
below_sooner x a b le h =
    elim (by_lt_z x b (λ p. inl p) (λ p. inr p)) [
      | inl lt ↦ absurd (cc (below_is x b lt))
      | inr ge ↦ not_below x a (omega (arith, ints))
    ]

three : (p s t : Bool) (u : Bool) → (t ≡ false → u ≡ false) → OnlyIf (p && not t && s) (p && not u && s)
three false s t u h e = absurd (cc)
three true s true u h e = absurd (cc)
three true s false true h e = absurd (cc (h refl))
three true s false false h e = e

branch_only : (o : Option ℕ) (x y : ℕ → Bool) (u v : Bool) → ((k : ℕ) → OnlyIf (x k) (y k)) → OnlyIf u v → OnlyIf (elim o [ Some k ↦ x k | None ↦ u ]) (elim o [ Some k ↦ y k | None ↦ v ])
branch_only (Some k) x y u v h e = h k
branch_only None x y u v h e = e

pub live_longer : (d : Declarations) (c : Contract) (g : List Entry) (env : Environment) (f s a b : ℤ) → s ≤ℤ a → OnlyIf (live d c g env f a b) (live d c g env f s b)
live_longer d Zero g env f s a b le = λ e. e
live_longer d (Pay x p q) g env f s a b le = three (not (p == q)) (not (int_lt b (pos 0))) (int_lt (pos 0) a) (int_lt (pos 0) s) (below_sooner (pos 0) s a le)
live_longer d (Both x y) g env f s a b le = either _ _ _ _ (live_longer d x g env f s a b le) (live_longer d y g env f s a b le)
live_longer d (Scale e c) g env f s a b le = live_longer d c g env f s a b le
live_longer d (After m c) g env f s a b le =
    live_longer d c g env (f +ℤ pos (count_of m)) (s -ℤ pos (count_of m)) (a -ℤ pos (count_of m)) (b -ℤ pos (count_of m)) (omega (arith, ints))
live_longer d (Let e c) g env f s a b le = live_longer d c (entry_of d e g env f ∷ g) env f s a b le
live_longer d (Within e m x y) g env f s a b le =
    branch_only (first_true d e g env f (count_of m)) _ _ _ _ (λ k. live_longer d x g env (f +ℤ pos k) (s -ℤ pos k) (a -ℤ pos k) (b -ℤ pos k) (omega (arith, ints))) (live_longer d y g env (f +ℤ pos (count_of m)) (s -ℤ pos (count_of m)) (a -ℤ pos (count_of m)) (b -ℤ pos (count_of m)) (omega (arith, ints)))

pub reads_longer : (d : Declarations) (c : Contract) (g : List Entry) (bs : List (List Place)) (env : Environment) (f s a b : ℤ) → s ≤ℤ a → AreAmong (reads_of_contract d c g bs env f a b) (reads_of_contract d c g bs env f s b)
reads_longer d Zero g bs env f s a b le = among_none []
reads_longer d (Pay x p q) g bs env f s a b le = among_none []
reads_longer d (Both x y) g bs env f s a b le = among_both _ _ _ _ (reads_longer d x g bs env f s a b le) (reads_longer d y g bs env f s a b le)
reads_longer d (Scale e c) g bs env f s a b le =
    among_both _ _ _ _ (reads_longer d c g bs env f s a b le) (among_if _ _ _ _ (live_longer d c g env f s a b le) (among_same (reads_of d e g bs env f) _ refl))
reads_longer d (After m c) g bs env f s a b le =
    reads_longer d c g bs env (f +ℤ pos (count_of m)) (s -ℤ pos (count_of m)) (a -ℤ pos (count_of m)) (b -ℤ pos (count_of m)) (omega (arith, ints))
reads_longer d (Let e c) g bs env f s a b le = reads_longer d c (entry_of d e g env f ∷ g) (reads_of d e g bs env f ∷ bs) env f s a b le
reads_longer d (Within e m x y) g bs env f s a b le =
    let n = count_of m in
    let first = first_true d e g env f n in
    let tests : List Place = upto (tested first n b) (λ i. reads_of d e g bs env (f +ℤ pos i)) in
    among_unless (int_lt b (pos 0)) _ _ (among_both tests _ tests _ (among_same tests tests refl)
    (among_branches first first n b _ _ _ _ refl (λ k. reads_longer d x g bs env (f +ℤ pos k) (s -ℤ pos k) (a -ℤ pos k) (b -ℤ pos k) (omega (arith, ints))) (reads_longer d y g bs env (f +ℤ pos n) (s -ℤ pos n) (a -ℤ pos n) (b -ℤ pos n) (omega (arith, ints)))))
