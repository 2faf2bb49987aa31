-- A turn of a contract transfers only where the contract does, and reads nothing that it does not read.
use Rattle.std.proofs.Common.{◌≡◌, ℕ, suc, ℤ, pos, ◌+ℤ◌, ◌-ℤ◌, ◌+◌, Bool, true, false, ◌||◌, int_lt, Option, Some, None, List, ◌∷◌, [], refl, ap, sym, subst, ◌∙◌, arith}
use Rattle.std.proofs.lemmas.Int.{ints}
use Rattle.term_model.specs.Declarations.{Declarations}
use Rattle.term_model.specs.declared.values.Kind.TheVariants.{Truth as TruthKind}
use Rattle.term_model.specs.Terms.{Contract, Zero, Pay, Both, Scale, After, Let, Within}
use Rattle.term_model.specs.Environments.{Environment, Place}
use Rattle.term_model.specs.Kinds.{kind_of}
use Rattle.term_model.specs.Values.{Entry, kinds, kind_or, first_true, entry_of}
use Rattle.term_model.specs.Flows.{count_of, amount_of}
use Rattle.term_model.specs.Reads.{reads_of, reads_of_contract, live, upto, tested}
use Rattle.interval_check.proofs.GuaranteeFacts.{rules_are_by_structure}
use Rattle.rewriting.proofs.Among.{among_none, among_same, among_both, among_if, then_among, among_steps, one_name_more, among_unless, among_branches}
use Rattle.simplify.specs.Turning.{turned}
use Rattle.simplify.specs.TurningContracts.{rule_in, turned_in}
use Rattle.simplify.proofs.TurnMeaning.{turn_means}
use Rattle.rewriting.specs.Keeping.{AreAmong}
use Rattle.rewriting.proofs.Branches.{branch_test, branch_reads}
use Rattle.term_model.proofs.ContractReadFacts.{test_reads}
use Rattle.simplify.specs.LawsTurnsKeep.{TurnsTransferLess, ContractTurnsReadLess, TurnsCarry}
use Rattle.simplify.proofs.RuleReads.{OnlyIf, ReadsInPlace, rule_reads_in}
use Rattle.simplify.proofs.TurnReads.{turn_reads}
use Rattle.simplify.proofs.TurnFlows.{entry_has, same_entry, same_test, sorts_here, turns_keep_amounts}

then_only : (b c e : Bool) → OnlyIf b c → OnlyIf c e → OnlyIf b e
then_only b c e h k p = k (h p)

pub either : (b c s t : Bool) → OnlyIf b s → OnlyIf c t → OnlyIf (b || c) (s || t)
either true c s t h k e = rw (h refl) refl
either false c true t h k e = refl
either false c false t h k e = k e

only_branches : (o u : Option ℕ) (x y : ℕ → Bool) (v w : Bool) → o ≡ u → ((k : ℕ) → OnlyIf (x k) (y k)) → OnlyIf v w → OnlyIf (branch_test o x v) (branch_test u y w)
only_branches o u x y v w e h i = subst (λ (r : Option ℕ). OnlyIf (branch_test o x v) (branch_test r y w)) e (at o)
  where
    at : (r : Option ℕ) → OnlyIf (branch_test r x v) (branch_test r y w)
    at (Some k) = h k
    at None = i

-- the rule, once the parts are turned
transfers_then : (d : Declarations) (g : List Entry) (env : Environment) (x : Contract) (f a b : ℤ) (t : Bool) → ReadsInPlace d g [] env (rule_in x) x → OnlyIf (live d x g env f a b) t → OnlyIf (live d (rule_in x) g env f a b) t
transfers_then d g env x f a b t r h = then_only (live d (rule_in x) g env f a b) (live d x g env f a b) t (r.transfers f a b) h

pub turn_transfers : TurnsTransferLess
turn_transfers d Zero g env f a b m h s = λ p. p
turn_transfers d (Pay x p q) g env f a b m h s = λ p. p
turn_transfers d (Both x y) g env f a b m h s =
    let x' = turned_in d (kinds g) x in
    let y' = turned_in d (kinds g) y in
    transfers_then d g env (Both x' y') f a b (live d x g env f a b || live d y g env f a b) (rule_reads_in d g [] env (Both x' y') tt) (either (live d x' g env f a b) (live d y' g env f a b) (live d x g env f a b) (live d y g env f a b) (turn_transfers d x g env f a b m h s.0) (turn_transfers d y g env f a b m h s.1))
turn_transfers d (Scale e c) g env f a b m h s =
    let x' = Scale (turned d (kinds g) e) (turned_in d (kinds g) c) in
    transfers_then d g env x' f a b (live d c g env f a b) (rule_reads_in d g [] env x' tt) (turn_transfers d c g env f a b m h s.1)
turn_transfers d (After n c) g env f a b m h s =
    let x' = After n (turned_in d (kinds g) c) in
    transfers_then d g env x' f a b (live d (After n c) g env f a b) (rule_reads_in d g [] env x' tt) (turn_transfers d c g env (f +ℤ pos (count_of n)) (a -ℤ pos (count_of n)) (b -ℤ pos (count_of n)) m h s)
turn_transfers d (Let e c) g env f a b m h s =
    let c' = turned_in d (kind_or (kind_of d e (kinds g)) ∷ kinds g) c in
    let x' = Let (turned d (kinds g) e) c' in
    transfers_then d g env x' f a b (live d (Let e c) g env f a b) (rule_reads_in d g [] env x' tt)
    (subst (λ (entry : Entry). OnlyIf (live d c' (entry ∷ g) env f a b) (live d (Let e c) g env f a b)) (sym (same_entry d e g env f m h s.0)) (turn_transfers d c (entry_of d e g env f ∷ g) env f a b m (entry_has d e g env f m h s.0) s.1))
turn_transfers d (Within e n x y) g env f a b m h s =
    let c = count_of n in
    let e' = turned d (kinds g) e in
    let x' = turned_in d (kinds g) x in
    let y' = turned_in d (kinds g) y in
    let w' = Within e' n x' y' in
    transfers_then d g env w' f a b (live d (Within e n x y) g env f a b) (rule_reads_in d g [] env w' (turn_means d e g env (pos 0) TruthKind m h s.0).0)
    (only_branches (first_true d e' g env f c) (first_true d e g env f c) (λ k. live d x' g env (f +ℤ pos k) (a -ℤ pos k) (b -ℤ pos k)) (λ k. live d x g env (f +ℤ pos k) (a -ℤ pos k) (b -ℤ pos k)) (live d y' g env (f +ℤ pos c) (a -ℤ pos c) (b -ℤ pos c)) (live d y g env (f +ℤ pos c) (a -ℤ pos c) (b -ℤ pos c)) (same_test d e g env f c m h s.0)
    (λ k. turn_transfers d x g env (f +ℤ pos k) (a -ℤ pos k) (b -ℤ pos k) m h s.1)
    (turn_transfers d y g env (f +ℤ pos c) (a -ℤ pos c) (b -ℤ pos c) m h s.2))

reads_then : (d : Declarations) (g : List Entry) (bs : List (List Place)) (env : Environment) (x : Contract) (f a b : ℤ) (ys : List Place) → ReadsInPlace d g bs env (rule_in x) x → AreAmong (reads_of_contract d x g bs env f a b) ys → AreAmong (reads_of_contract d (rule_in x) g bs env f a b) ys
reads_then d g bs env x f a b ys r h = then_among (reads_of_contract d (rule_in x) g bs env f a b) (reads_of_contract d x g bs env f a b) ys (r.places f a b) h

pub contract_turn_reads : ContractTurnsReadLess
contract_turn_reads d Zero g bs cs env f a b m h s less = among_none []
contract_turn_reads d (Pay x p q) g bs cs env f a b m h s less = among_none []
contract_turn_reads d (Both x y) g bs cs env f a b m h s less =
    let x' = turned_in d (kinds g) x in
    let y' = turned_in d (kinds g) y in
    reads_then d g bs env (Both x' y') f a b (reads_of_contract d (Both x y) g cs env f a b) (rule_reads_in d g bs env (Both x' y') tt) (among_both _ _ _ _ (contract_turn_reads d x g bs cs env f a b m h s.0 less) (contract_turn_reads d y g bs cs env f a b m h s.1 less))
contract_turn_reads d (Scale e c) g bs cs env f a b m h s less =
    let x' = Scale (turned d (kinds g) e) (turned_in d (kinds g) c) in
    reads_then d g bs env x' f a b (reads_of_contract d (Scale e c) g cs env f a b) (rule_reads_in d g bs env x' tt)
    (among_both _ _ _ _ (contract_turn_reads d c g bs cs env f a b m h s.1 less) (among_if _ _ _ _ (turn_transfers d c g env f a b m h s.1) (turn_reads d e g bs cs env f s.0.0 m h s.0.1 less)))
contract_turn_reads d (After n c) g bs cs env f a b m h s less =
    let x' = After n (turned_in d (kinds g) c) in
    reads_then d g bs env x' f a b (reads_of_contract d (After n c) g cs env f a b) (rule_reads_in d g bs env x' tt) (contract_turn_reads d c g bs cs env (f +ℤ pos (count_of n)) (a -ℤ pos (count_of n)) (b -ℤ pos (count_of n)) m h s less)
contract_turn_reads d (Let e c) g bs cs env f a b m h s less =
    let c' = turned_in d (kind_or (kind_of d e (kinds g)) ∷ kinds g) c in
    let e' = turned d (kinds g) e in
    let ps = reads_of d e' g bs env f in
    reads_then d g bs env (Let e' c') f a b (reads_of_contract d (Let e c) g cs env f a b) (rule_reads_in d g bs env (Let e' c') tt)
    (subst (λ (entry : Entry). AreAmong (reads_of_contract d c' (entry ∷ g) (ps ∷ bs) env f a b) (reads_of_contract d (Let e c) g cs env f a b)) (sym (same_entry d e g env f m h s.0))
    (contract_turn_reads d c (entry_of d e g env f ∷ g) (ps ∷ bs) (reads_of d e g cs env f ∷ cs) env f a b m (entry_has d e g env f m h s.0) s.1 (one_name_more ps (reads_of d e g cs env f) bs cs (turn_reads d e g bs cs env f s.0.0 m h s.0.1 less) less)))
contract_turn_reads d (Within e n x y) g bs cs env f a b m h s less =
    let c = count_of n in
    let e' = turned d (kinds g) e in
    let x' = turned_in d (kinds g) x in
    let y' = turned_in d (kinds g) y in
    let first = first_true d e g env f c in
    let first' = first_true d e' g env f c in
    let last = tested first c b in
    let tests' = test_reads d e' g bs env f in
    let tests = test_reads d e g cs env f in
    reads_then d g bs env (Within e' n x' y') f a b (reads_of_contract d (Within e n x y) g cs env f a b) (rule_reads_in d g bs env (Within e' n x' y') (turn_means d e g env (pos 0) TruthKind m h s.0).0)
    (among_unless (int_lt b (pos 0)) _ _
    (among_both (upto (tested first' c b) tests') (branch_reads first' c b (λ k. reads_of_contract d x' g bs env (f +ℤ pos k) (a -ℤ pos k) (b -ℤ pos k)) (reads_of_contract d y' g bs env (f +ℤ pos c) (a -ℤ pos c) (b -ℤ pos c))) (upto last tests) (branch_reads first c b (λ k. reads_of_contract d x g cs env (f +ℤ pos k) (a -ℤ pos k) (b -ℤ pos k)) (reads_of_contract d y g cs env (f +ℤ pos c) (a -ℤ pos c) (b -ℤ pos c)))
    (then_among (upto (tested first' c b) tests') (upto last tests') (upto last tests)
    (among_same (upto (tested first' c b) tests') (upto last tests') (ap (λ (r : Option ℕ). upto (tested r c b) tests') (same_test d e g env f c m h s.0)))
    (among_steps (suc last) tests' tests (λ j. turn_reads d e g bs cs env (f +ℤ pos j) TruthKind m h s.0 less)))
    (among_branches first' first c b _ _ _ _ (same_test d e g env f c m h s.0)
    (λ k. contract_turn_reads d x g bs cs env (f +ℤ pos k) (a -ℤ pos k) (b -ℤ pos k) m h s.1 less)
    (contract_turn_reads d y g bs cs env (f +ℤ pos c) (a -ℤ pos c) (b -ℤ pos c) m h s.2 less))))

pub turns_carry : TurnsCarry
turns_carry d F c f sorts le =
    let here : f +ℤ pos 0 ≡ f = omega (arith, ints) in
    let none : (k : ℕ) → k ≡ 0 + k = λ k. omega arith in
    let k = turned_in d [] c in
    let have = sorts_here d c [] ((rules_are_by_structure d c).0.0 sorts) in
    record {
      amounts = λ env a x n w.
          ap (λ (h : ℤ). amount_of d k env h (pos n) w) here ∙ turns_keep_amounts d c env f (pos n) w a sorts le ∙ ap (λ (i : ℕ). amount_of d c env f (pos i) w) (none n);
      reads = λ env a x b q p.
          among_same (reads_of_contract d c [] [] env f (pos 0) (pos b)) (reads_of_contract d c [] [] env f (pos 0) (pos (0 + b))) (ap (λ (i : ℕ). reads_of_contract d c [] [] env f (pos 0) (pos i)) (none b)) q
          (contract_turn_reads d c [] [] [] env f (pos 0) (pos b) a tt have (λ i q' p'. p') q
          (among_same (reads_of_contract d k [] [] env (f +ℤ pos 0) (pos 0) (pos b)) (reads_of_contract d k [] [] env f (pos 0) (pos b)) (ap (λ (h : ℤ). reads_of_contract d k [] [] env h (pos 0) (pos b)) here) q p));
    }
