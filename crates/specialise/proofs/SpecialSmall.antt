-- What is specialised is no larger, by any measure, and so each of its nodes is small.
use Rattle.std.proofs.Common.{◌≡◌, ℕ, ℤ, pos, ◌-ℤ◌, ◌+◌, ◌≤◌, max, Option, None, List, ◌∷◌, refl, sym, subst, arith}
use Rattle.term_model.specs.Declarations.{Declarations}
use Rattle.term_model.specs.declared.values.Kind.{Kind}
use Rattle.term_model.specs.declared.values.Kind.TheVariants.{Truth as TruthKind, Number}
use Rattle.term_model.specs.declared.values.Value.{Value}
use Rattle.term_model.specs.Terms.{Expression, Lit, Yes, Var, Obs, Neg, Num, Cmp, Not, Logic, Cond, Widen, Round, Div, Acc}
use Rattle.term_model.specs.Terms.{Contract, Zero, Pay, Both, Scale, After, Let, Within}
use Rattle.term_model.specs.Environments.{Environment}
use Rattle.term_model.specs.Flows.{count_of}
use Rattle.term_model.specs.Sizes.{height, nodes, past, work}
use Rattle.term_model.specs.Sites.{Once}
use Rattle.term_model.specs.Redexes.{moved}
use Rattle.term_model.specs.Bounds.{Range}
use Rattle.interval_check.specs.Nodes.{EachNode, EachContractNode, range_of, range_after}
use Rattle.rewriting.specs.Replacing.{literal_of}
use Rattle.specialise.specs.Specialising.{specialised, specialised_in}
use Rattle.specialise.proofs.ToldFacts.{told_cases}
use Rattle.specialise.proofs.SpecialSizes.{nothing_told}
use Rattle.rewriting.proofs.SmallFacts.{Lesser, LesserContract, Small, small_node, small_contract_node}

pub literal_lesser : (k : Kind) (v : Value) (e : Expression) → 1 ≤ height e → 1 ≤ nodes e → 1 ≤ work e → Lesser (literal_of k v) e
literal_lesser TruthKind v e h n w = record { heights = h; counts = n; pasts = omega arith; works = w }
literal_lesser (Number s) v e h n w = record { heights = h; counts = n; pasts = omega arith; works = w }

pub same_lesser : (e : Expression) → Lesser e e
same_lesser e = record { heights = omega arith; counts = omega arith; pasts = omega arith; works = omega arith }

-- an accumulator with a start that is no larger
acc_lesser : (body' body first' first : Expression) (n : ℕ) → body' ≡ body → Lesser first' first → Lesser (Acc body' n first') (Acc body n first)
acc_lesser body' body first' first n e l =
    subst (λ (b : Expression). Lesser (Acc b n first') (Acc body n first)) (sym e)
    (record { heights = omega (arith, l.heights); counts = omega (arith, l.counts); pasts = omega (arith, l.pasts); works = omega (arith, l.works) })

pub one_lesser : (F : Expression → Expression) → ((e : Expression) → height (F e) ≡ height e + 1) → ((e : Expression) → nodes (F e) ≡ nodes e + 1) → ((e : Expression) → past (F e) ≡ past e) → ((e : Expression) → work (F e) ≡ 1 + work e) → (y e : Expression) → Lesser y e → Lesser (F y) (F e)
one_lesser F h n p w y e l =
    record { heights = omega (arith, h y, h e, l.heights); counts = omega (arith, n y, n e, l.counts); pasts = omega (arith, p y, p e, l.pasts); works = omega (arith, w y, w e, l.works) }

pub two_lesser : (F : Expression → Expression → Expression) → ((a b : Expression) → height (F a b) ≡ max (height a) (height b) + 1) → ((a b : Expression) → nodes (F a b) ≡ nodes a + nodes b + 1) → ((a b : Expression) → past (F a b) ≡ max (past a) (past b)) → ((a b : Expression) → work (F a b) ≡ 1 + (work a + work b)) → (y a z b : Expression) → Lesser y a → Lesser z b → Lesser (F y z) (F a b)
two_lesser F h n p w y a z b l m =
    record { heights = omega (arith, h y z, h a b, l.heights, m.heights); counts = omega (arith, n y z, n a b, l.counts, m.counts); pasts = omega (arith, p y z, p a b, l.pasts, m.pasts); works = omega (arith, w y z, w a b, l.works, m.works) }

pub special_lesser : (d : Declarations) (F : Environment) (o : Option ℤ) (e : Expression) → Lesser (specialised d F o e) e
special_lesser d F o (Lit m s) = same_lesser (Lit m s)
special_lesser d F o (Yes b) = same_lesser (Yes b)
special_lesser d F o (Var back) = same_lesser (Var back)
special_lesser d F o (Obs l t) = told_cases (λ y. Lesser y (Obs l t)) d F o (Obs l t) (Obs l t) (λ f k e. literal_lesser k _ (Obs l t) (omega arith) (omega arith) (omega arith)) (λ _. same_lesser (Obs l t))
special_lesser d F o (Neg e) = one_lesser Neg (λ _. refl) (λ _. refl) (λ _. refl) (λ _. refl) _ e (special_lesser d F o e)
special_lesser d F o (Num op a b) = two_lesser (Num op) (λ _ _. refl) (λ _ _. refl) (λ _ _. refl) (λ _ _. refl) _ a _ b (special_lesser d F o a) (special_lesser d F o b)
special_lesser d F o (Cmp op a b) = two_lesser (Cmp op) (λ _ _. refl) (λ _ _. refl) (λ _ _. refl) (λ _ _. refl) _ a _ b (special_lesser d F o a) (special_lesser d F o b)
special_lesser d F o (Not e) = one_lesser Not (λ _. refl) (λ _. refl) (λ _. refl) (λ _. refl) _ e (special_lesser d F o e)
special_lesser d F o (Logic op a b) = two_lesser (Logic op) (λ _ _. refl) (λ _ _. refl) (λ _ _. refl) (λ _ _. refl) _ a _ b (special_lesser d F o a) (special_lesser d F o b)
special_lesser d F o (Cond t a b) =
    let l = special_lesser d F o t in
    let m = special_lesser d F o a in
    let n = special_lesser d F o b in
    record { heights = omega (arith, l.heights, m.heights, n.heights); counts = omega (arith, l.counts, m.counts, n.counts); pasts = omega (arith, l.pasts, m.pasts, n.pasts); works = omega (arith, l.works, m.works, n.works) }
special_lesser d F o (Widen s e) = one_lesser (Widen s) (λ _. refl) (λ _. refl) (λ _. refl) (λ _. refl) _ e (special_lesser d F o e)
special_lesser d F o (Round mode s e) = one_lesser (Round mode s) (λ _. refl) (λ _. refl) (λ _. refl) (λ _. refl) _ e (special_lesser d F o e)
special_lesser d F o (Div mode s a b) = two_lesser (Div mode s) (λ _ _. refl) (λ _ _. refl) (λ _ _. refl) (λ _ _. refl) _ a _ b (special_lesser d F o a) (special_lesser d F o b)
special_lesser d F o (Acc body n first) =
    told_cases (λ y. Lesser y (Acc body n first)) d F o (Acc body n first) (Acc (specialised d F None body) n (specialised d F (moved (pos 0 -ℤ pos n) o) first)) (λ f k e. literal_lesser k _ (Acc body n first) (omega arith) (omega arith) (omega arith))
    (λ _. acc_lesser _ body _ first n (nothing_told d F body) (special_lesser d F (moved (pos 0 -ℤ pos n) o) first))

pub contract_lesser : (d : Declarations) (F : Environment) (o : Option ℤ) (c : Contract) → LesserContract (specialised_in d F o c) c
contract_lesser d F o Zero = record { heights = omega arith; counts = omega arith; pasts = omega arith; works = omega arith; reaches = omega arith }
contract_lesser d F o (Pay a p q) = record { heights = omega arith; counts = omega arith; pasts = omega arith; works = omega arith; reaches = omega arith }
contract_lesser d F o (Both a b) =
    let l = contract_lesser d F o a in
    let m = contract_lesser d F o b in
    record { heights = omega (arith, l.heights, m.heights); counts = omega (arith, l.counts, m.counts); pasts = omega (arith, l.pasts, m.pasts); works = omega (arith, l.works, m.works); reaches = omega (arith, l.reaches, m.reaches) }
contract_lesser d F o (Scale e c) =
    let l = special_lesser d F o e in
    let m = contract_lesser d F o c in
    record { heights = omega (arith, l.heights, m.heights); counts = omega (arith, l.counts, m.counts); pasts = omega (arith, l.pasts, m.pasts); works = omega (arith, l.works, m.works); reaches = m.reaches }
contract_lesser d F o (After n c) =
    let m = contract_lesser d F (moved (pos (count_of n)) o) c in
    record { heights = omega (arith, m.heights); counts = omega (arith, m.counts); pasts = m.pasts; works = m.works; reaches = omega (arith, m.reaches) }
contract_lesser d F o (Let e c) =
    let l = special_lesser d F o e in
    let m = contract_lesser d F o c in
    record { heights = omega (arith, l.heights, m.heights); counts = omega (arith, l.counts, m.counts); pasts = omega (arith, l.pasts, m.pasts); works = omega (arith, l.works, m.works); reaches = m.reaches }
contract_lesser d F o (Within e n a b) =
    let l = contract_lesser d F None a in
    let m = contract_lesser d F (moved (pos (count_of n)) o) b in
    subst (λ (x : Expression). LesserContract (Within x n (specialised_in d F None a) (specialised_in d F (moved (pos (count_of n)) o) b)) (Within e n a b)) (sym (nothing_told d F e))
    (record { heights = omega (arith, l.heights, m.heights); counts = omega (arith, l.counts, m.counts); pasts = omega (arith, l.pasts, m.pasts); works = omega (arith, l.works, m.works); reaches = omega (arith, l.reaches, m.reaches) })

pub literal_small : (d : Declarations) (k : Kind) (v : Value) (g : List Range) → EachNode Small Once d (literal_of k v) g
literal_small d TruthKind v g = refl
literal_small d (Number s) v g = refl

pub special_small : (d : Declarations) (F : Environment) (o : Option ℤ) (e : Expression) (g h : List Range) → EachNode Small Once d e g → EachNode Small Once d (specialised d F o e) h
special_small d F o (Lit m s) g h r = r
special_small d F o (Yes b) g h r = r
special_small d F o (Var back) g h r = r
special_small d F o (Obs l t) g h r = told_cases (λ y. EachNode Small Once d y h) d F o (Obs l t) (Obs l t) (λ f k e. literal_small d k _ h) (λ _. r)
special_small d F o (Neg e) g h r = (special_small d F o e g h r.0, small_node _ (Neg e) (omega arith) (special_lesser d F o (Neg e)) r.1)
special_small d F o (Num op a b) g h r = (special_small d F o a g h r.0, special_small d F o b g h r.1, small_node _ (Num op a b) (omega arith) (special_lesser d F o (Num op a b)) r.2)
special_small d F o (Cmp op a b) g h r = (special_small d F o a g h r.0, special_small d F o b g h r.1, small_node _ (Cmp op a b) (omega arith) (special_lesser d F o (Cmp op a b)) r.2)
special_small d F o (Not e) g h r = (special_small d F o e g h r.0, small_node _ (Not e) (omega arith) (special_lesser d F o (Not e)) r.1)
special_small d F o (Logic op a b) g h r = (special_small d F o a g h r.0, special_small d F o b g h r.1, small_node _ (Logic op a b) (omega arith) (special_lesser d F o (Logic op a b)) r.2)
special_small d F o (Cond t a b) g h r =
    (special_small d F o t g h r.0, special_small d F o a g h r.1, special_small d F o b g h r.2, small_node _ (Cond t a b) (omega arith) (special_lesser d F o (Cond t a b)) r.3)
special_small d F o (Widen s e) g h r = (special_small d F o e g h r.0, small_node _ (Widen s e) (omega arith) (special_lesser d F o (Widen s e)) r.1)
special_small d F o (Round mode s e) g h r = (special_small d F o e g h r.0, small_node _ (Round mode s e) (omega arith) (special_lesser d F o (Round mode s e)) r.1)
special_small d F o (Div mode s a b) g h r = (special_small d F o a g h r.0, special_small d F o b g h r.1, small_node _ (Div mode s a b) (omega arith) (special_lesser d F o (Div mode s a b)) r.2)
special_small d F o (Acc body n first) g h r =
    let body' = specialised d F None body in
    let first' = specialised d F (moved (pos 0 -ℤ pos n) o) first in
    told_cases (λ y. EachNode Small Once d y h) d F o (Acc body n first) (Acc body' n first') (λ f k e. literal_small d k _ h) (λ _. (
      special_small d F (moved (pos 0 -ℤ pos n) o) first g h r.0,
      (
        special_small d F None body (range_after d body 0 first g ∷ g) (range_after d body' 0 first' h ∷ h) r.1.0,
        small_node (Acc body' n first') (Acc body n first) (omega arith) (acc_lesser body' body first' first n (nothing_told d F body) (special_lesser d F (moved (pos 0 -ℤ pos n) o) first)) r.1.1,
      ),
    ))

pub contract_small : (d : Declarations) (F : Environment) (o : Option ℤ) (c : Contract) (g h : List Range) → EachContractNode Small Once d c g → EachContractNode Small Once d (specialised_in d F o c) h
contract_small d F o Zero g h r = r
contract_small d F o (Pay a p q) g h r = r
contract_small d F o (Both a b) g h r = (contract_small d F o a g h r.0, contract_small d F o b g h r.1, small_contract_node _ (Both a b) (omega arith) (contract_lesser d F o (Both a b)) r.2)
contract_small d F o (Scale e c) g h r = (special_small d F o e g h r.0, contract_small d F o c g h r.1, small_contract_node _ (Scale e c) (omega arith) (contract_lesser d F o (Scale e c)) r.2)
contract_small d F o (After n c) g h r = (contract_small d F (moved (pos (count_of n)) o) c g h r.0, small_contract_node _ (After n c) (omega arith) (contract_lesser d F o (After n c)) r.1)
contract_small d F o (Let e c) g h r =
    (special_small d F o e g h r.0, contract_small d F o c (range_of d e g ∷ g) (range_of d (specialised d F o e) h ∷ h) r.1, small_contract_node _ (Let e c) (omega arith) (contract_lesser d F o (Let e c)) r.2)
contract_small d F o (Within e n a b) g h r =
    (special_small d F None e g h r.0, contract_small d F None a g h r.1, contract_small d F (moved (pos (count_of n)) o) b g h r.2, small_contract_node _ (Within e n a b) (omega arith) (contract_lesser d F o (Within e n a b)) r.3)
