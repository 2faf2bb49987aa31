-- The trial of the scale of an expression whose sorts are right finds the first node that breaks the rule on scales.
use Rattle.std.proofs.Common.{◌≡◌, ℕ, zero, suc, ◌+◌, ◌≤◌, max, true, leb-true, le-leb, ◌&&◌, nat_le, List, [], ◌∷◌, ◌++◌, map, Option, Some, Ok, refl, ap, ap₂, sym, subst, ◌∙◌, arith, slice_get}
use Rattle.std.proofs.Math.Bool.{and-true}
use Rattle.term_model.specs.Declarations.{Declarations}
use Rattle.term_model.specs.declared.values.Kind.{Kind}
use Rattle.term_model.specs.declared.values.Kind.TheVariants.{Truth, Number}
use Rattle.decimal.specs.declared.Mode.{Mode}
use Rattle.term_model.specs.declared.terms.NumOp.{NumOp}
use Rattle.term_model.specs.declared.terms.LogicOp.{LogicOp}
use Rattle.term_model.specs.Terms.{Expression, Lit, Yes, Var, Obs, Neg, Num, Cmp, Not, Logic, Cond, Widen, Round, Div, Acc}
use Rattle.term_model.specs.Environments.{label_of}
use Rattle.term_model.specs.Kinds.{kind_of, kind_of_label, on_numbers, scale_of_op, scale_of_kind, scale_or_zero, scale_of, on_truth, joined}
use Rattle.term_model.specs.Values.{kind_or}
use Rattle.term_model.specs.Sizes.{nodes}
use Rattle.term_model.specs.Scales.{greatest_scale, is_scaled}
use Rattle.term_model.specs.Sites.{Site, Layer, Counting, Earlier, Once, sites_of, expression_at, kinds_round}
use Rattle.term_core.specs.Trying.{then_do, moved}
use Rattle.term_model.proofs.KindParts.{one_number, two_numbers, truth_then, branches, days, scale_either}
use Rattle.scale_check.specs.ScaleScopes.{found_scale}
use Rattle.scale_check.specs.ScaleTrials.{Answer, at_most, not_above, two_tried, scale_tried}
use Rattle.scale_check.proofs.Finding.{Finds, shift, seq, fine, ends, here, here_twice}

-- a scale that was found is that of the kind, and at most the greatest
pub record IsScale (x : Kind) (s : ℕ) : Type 0 where
  pub same : s ≡ scale_of_kind x
  pub small : s ≤ greatest_scale

abbrev pub scales_round : Declarations → List Layer → List ℕ
scales_round d r = map scale_of_kind (kinds_round d r)

abbrev pub ScaleFinds : Declarations → Expression → Type 0
ScaleFinds d e =
    (r : List Layer) (k : ℕ) (x : Kind) → kind_of d e (kinds_round d r) ≡ Some x → Finds (is_scaled d) (sites_of Once e r k) k (IsScale x) (scale_tried d e (scales_round d r))

-- the test of a node whose operator asks nothing of its parts
plain : (v : Option Kind) (x : Kind) → v ≡ Some x → (nat_le (scale_or_zero v) greatest_scale && true) ≡ nat_le (scale_of_kind x) greatest_scale
plain v x h =
    ap (λ (o : Option Kind). nat_le (scale_or_zero o) greatest_scale && true) h ∙ and-true (nat_le (scale_of_kind x) greatest_scale)

-- a node of such an operator, whose answer has a scale of its own
keeps : (d : Declarations) (s : Site) (k : ℕ) (v : Option Kind) (x : Kind) (w : ℕ) → s.number ≡ k → is_scaled d s ≡ (nat_le (scale_or_zero v) greatest_scale && true) → v ≡ Some x → w ≡ scale_of_kind x → Finds (is_scaled d) (s ∷ []) k (IsScale x) (at_most greatest_scale w)
keeps d s k v x w n e h q =
    here (is_scaled d) s k (IsScale x) (nat_le w greatest_scale) w n (e ∙ plain v x h ∙ ap (λ (i : ℕ). nat_le i greatest_scale) (sym q))
    (λ t. record { same = q; small = leb-true w greatest_scale t })

-- a node of such an operator, with a scale of a part
passes_on : (d : Declarations) (s : Site) (v : Option Kind) (x : Kind) (w : ℕ) → is_scaled d s ≡ (nat_le (scale_or_zero v) greatest_scale && true) → v ≡ Some x → w ≡ scale_of_kind x → w ≤ greatest_scale → (is_scaled d s ≡ true) × IsScale x w
passes_on d s v x w e h q l =
    (e ∙ plain v x h ∙ ap (λ (i : ℕ). nat_le i greatest_scale) (sym q) ∙ le-leb w greatest_scale l, record { same = q; small = l })

-- a node of an operator that takes only parts of at most its own scale
takes : (d : Declarations) (s : Site) (k : ℕ) (x : Kind) (i w : ℕ) → s.number ≡ k → is_scaled d s ≡ (nat_le w greatest_scale && nat_le i w) → w ≡ scale_of_kind x → Finds (is_scaled d) (s ∷ []) k (IsScale x) (not_above i w)
takes d s k x i w n e q =
    here_twice (is_scaled d) s k (IsScale x) (nat_le i w) (nat_le w greatest_scale) w n e
    (λ t. record { same = q; small = leb-true w greatest_scale t })

first_part : (d : Declarations) (e : Expression) (r : List Layer) (k : ℕ) (x : Kind) → ScaleFinds d e → kind_of d e (kinds_round d r) ≡ Some x → Finds (is_scaled d) (sites_of Once e r (k + 1)) k (IsScale x) (moved 1 (scale_tried d e (scales_round d r)))
first_part d e r k x h q =
    shift (is_scaled d) (sites_of Once e r (k + 1)) k (k + 1) 1 (IsScale x) (scale_tried d e (scales_round d r)) refl (h r (k + 1) x q)

second_part : (d : Declarations) (e : Expression) (r : List Layer) (k n : ℕ) (x : Kind) → ScaleFinds d e → kind_of d e (kinds_round d r) ≡ Some x → Finds (is_scaled d) (sites_of Once e r (k + 1 + n)) k (IsScale x) (moved (1 + n) (scale_tried d e (scales_round d r)))
second_part d e r k n x h q =
    shift (is_scaled d) (sites_of Once e r (k + 1 + n)) k (k + 1 + n) (1 + n) (IsScale x) (scale_tried d e (scales_round d r)) (omega arith) (h r (k + 1 + n) x q)

third_part : (d : Declarations) (e : Expression) (r : List Layer) (k m n : ℕ) (x : Kind) → ScaleFinds d e → kind_of d e (kinds_round d r) ≡ Some x → Finds (is_scaled d) (sites_of Once e r (k + 1 + m + n)) k (IsScale x) (moved m (moved (1 + n) (scale_tried d e (scales_round d r))))
third_part d e r k m n x h q =
    let zs : List Site = sites_of Once e r (k + 1 + m + n) in
    let a : Answer = scale_tried d e (scales_round d r) in
    shift (is_scaled d) zs k (k + m) m (IsScale x) (moved (1 + n) a) refl
    (shift (is_scaled d) zs (k + m) (k + 1 + m + n) (1 + n) (IsScale x) a (omega arith) (h r (k + 1 + m + n) x q))

-- two operands, and then the node
two : (d : Declarations) (a b : Expression) (r : List Layer) (k : ℕ) (s : Site) (y z x : Kind) (go : ℕ → ℕ → Answer) → ScaleFinds d a → ScaleFinds d b → kind_of d a (kinds_round d r) ≡ Some y → kind_of d b (kinds_round d r) ≡ Some z → ((i j : ℕ) → IsScale y i → IsScale z j → Finds (is_scaled d) (s ∷ []) k (IsScale x) (go i j)) → Finds (is_scaled d) (sites_of Once a r (k + 1) ++ (sites_of Once b r (k + 1 + nodes a) ++ s ∷ [])) k (IsScale x) (then_do (moved 1 (scale_tried d a (scales_round d r))) (λ i. then_do (moved (1 + nodes a) (scale_tried d b (scales_round d r))) (λ j. go i j)))
two d a b r k s y z x go ha hb ya zb f =
    let ys : List Site = sites_of Once b r (k + 1 + nodes a) in
    let tb : Answer = moved (1 + nodes a) (scale_tried d b (scales_round d r)) in
    seq (is_scaled d) (sites_of Once a r (k + 1)) (ys ++ s ∷ []) k (IsScale y) (IsScale x) (moved 1 (scale_tried d a (scales_round d r))) (λ i. then_do tb (λ j. go i j)) (first_part d a r k y ha ya)
    (λ i hi. seq (is_scaled d) ys (s ∷ []) k (IsScale z) (IsScale x) tb (λ j. go i j) (second_part d b r k (nodes a) z hb zb) (λ j hj. f i j hi hj))

-- The operators.

name_scale : (ks : List Kind) (back : ℕ) (x : Kind) → slice_get ks back ≡ Some x → found_scale (slice_get (map scale_of_kind ks) back) ≡ scale_of_kind x
name_scale [] back x h = absurd (cc)
name_scale (y ∷ ks) zero x h = let q : y ≡ x = let p : Some y ≡ Some x = h in cc in ap (λ (u : Kind). scale_of_kind u) q
name_scale (y ∷ ks) (suc back) x h = name_scale ks back x h

neg_finds : (d : Declarations) (e : Expression) → ScaleFinds d e → ScaleFinds d (Neg e)
neg_finds d e h r k x q =
    let p = one_number (λ s. Number s) (kind_of d e (kinds_round d r)) x q in
    ends (is_scaled d) (sites_of Once e r (k + 1)) (expression_at k r (Neg e)) k (IsScale (Number p.scale)) (IsScale x) (moved 1 (scale_tried d e (scales_round d r))) (first_part d e r k (Number p.scale) h p.operand)
    (λ i hi. passes_on d (expression_at k r (Neg e)) (kind_of d (Neg e) (kinds_round d r)) x i refl q (hi.same ∙ ap (λ (u : Kind). scale_of_kind u) p.whole) hi.small)

not_finds : (d : Declarations) (e : Expression) → ScaleFinds d e → ScaleFinds d (Not e)
not_finds d e h r k x q =
    let p = truth_then (kind_of d e (kinds_round d r)) (Some Truth) x q in
    let same : Truth ≡ x = let w : Some Truth ≡ Some x = p.rest in cc in
    ends (is_scaled d) (sites_of Once e r (k + 1)) (expression_at k r (Not e)) k (IsScale Truth) (IsScale x) (moved 1 (scale_tried d e (scales_round d r))) (first_part d e r k Truth h p.first)
    (λ i hi. passes_on d (expression_at k r (Not e)) (kind_of d (Not e) (kinds_round d r)) x i refl q (hi.same ∙ ap (λ (u : Kind). scale_of_kind u) same) hi.small)

round_finds : (d : Declarations) (mode : Mode) (s : ℕ) (e : Expression) → ScaleFinds d e → ScaleFinds d (Round mode s e)
round_finds d mode s e h r k x q =
    let p = one_number (λ _. Number s) (kind_of d e (kinds_round d r)) x q in
    let node : Site = expression_at k r (Round mode s e) in
    seq (is_scaled d) (sites_of Once e r (k + 1)) (node ∷ []) k (IsScale (Number p.scale)) (IsScale x) (moved 1 (scale_tried d e (scales_round d r))) (λ _. at_most greatest_scale s) (first_part d e r k (Number p.scale) h p.operand)
    (λ i hi. keeps d node k (kind_of d (Round mode s e) (kinds_round d r)) x s refl refl q (ap (λ (u : Kind). scale_of_kind u) p.whole))

widen_finds : (d : Declarations) (s : ℕ) (e : Expression) → ScaleFinds d e → ScaleFinds d (Widen s e)
widen_finds d s e h r k x q =
    let p = one_number (λ _. Number s) (kind_of d e (kinds_round d r)) x q in
    let whole : s ≡ scale_of_kind x = ap (λ (u : Kind). scale_of_kind u) p.whole in
    let node : Site = expression_at k r (Widen s e) in
    seq (is_scaled d) (sites_of Once e r (k + 1)) (node ∷ []) k (IsScale (Number p.scale)) (IsScale x) (moved 1 (scale_tried d e (scales_round d r))) (λ t. not_above t s) (first_part d e r k (Number p.scale) h p.operand)
    (λ i hi. takes d node k x i s refl
    (ap₂ (λ (o u : Option Kind). nat_le (scale_or_zero o) greatest_scale && nat_le (scale_or_zero u) s) q p.operand
    ∙ ap₂ (λ (w j : ℕ). nat_le w greatest_scale && nat_le j s) (sym whole) (sym hi.same)) whole)

num_finds : (d : Declarations) (op : NumOp) (a b : Expression) → ScaleFinds d a → ScaleFinds d b → ScaleFinds d (Num op a b)
num_finds d op a b ha hb r k x q =
    let p = two_numbers (λ s t. Number (scale_of_op op s t)) (kind_of d a (kinds_round d r)) (kind_of d b (kinds_round d r)) x q in
    two d a b r k (expression_at k r (Num op a b)) (Number p.left_scale) (Number p.right_scale) x (λ i j. at_most greatest_scale (scale_of_op op i j)) ha hb p.left p.right
    (λ i j hi hj. keeps d (expression_at k r (Num op a b)) k (kind_of d (Num op a b) (kinds_round d r)) x (scale_of_op op i j) refl refl q
    (ap₂ (λ (s t : ℕ). scale_of_op op s t) hi.same hj.same ∙ ap (λ (u : Kind). scale_of_kind u) p.whole))

-- an operator on two numbers whose answer has a scale of its own
fixed_finds : (d : Declarations) (a b whole : Expression) (r : List Layer) (k w : ℕ) (o x : Kind) → is_scaled d (expression_at k r whole) ≡ (nat_le (scale_of d whole (kinds_round d r)) greatest_scale && true) → kind_of d whole (kinds_round d r) ≡ Some x → w ≡ scale_of_kind o → ScaleFinds d a → ScaleFinds d b → on_numbers (λ _ _. Some o) (kind_of d a (kinds_round d r)) (kind_of d b (kinds_round d r)) ≡ Some x → Finds (is_scaled d) (sites_of Once a r (k + 1) ++ (sites_of Once b r (k + 1 + nodes a) ++ expression_at k r whole ∷ [])) k (IsScale x) (two_tried w (nodes a) (scale_tried d a (scales_round d r)) (scale_tried d b (scales_round d r)))
fixed_finds d a b whole r k w o x e q v ha hb m =
    let p = two_numbers (λ _ _. o) (kind_of d a (kinds_round d r)) (kind_of d b (kinds_round d r)) x m in
    two d a b r k (expression_at k r whole) (Number p.left_scale) (Number p.right_scale) x (λ _ _. at_most greatest_scale w) ha hb p.left p.right
    (λ i j hi hj. keeps d (expression_at k r whole) k (kind_of d whole (kinds_round d r)) x w refl e q (v ∙ ap (λ (u : Kind). scale_of_kind u) p.whole))

logic_finds : (d : Declarations) (op : LogicOp) (a b : Expression) → ScaleFinds d a → ScaleFinds d b → ScaleFinds d (Logic op a b)
logic_finds d op a b ha hb r k x q =
    let p = truth_then (kind_of d a (kinds_round d r)) (on_truth (kind_of d b (kinds_round d r)) (Some Truth)) x q in
    let m = truth_then (kind_of d b (kinds_round d r)) (Some Truth) x p.rest in
    let same : Truth ≡ x = let u : Some Truth ≡ Some x = m.rest in cc in
    two d a b r k (expression_at k r (Logic op a b)) Truth Truth x (λ _ _. at_most greatest_scale 0) ha hb p.first m.first
    (λ i j hi hj. keeps d (expression_at k r (Logic op a b)) k (kind_of d (Logic op a b) (kinds_round d r)) x 0 refl refl q (ap (λ (u : Kind). scale_of_kind u) same))

greater : (i j n : ℕ) → i ≤ n → j ≤ n → max i j ≤ n
greater i j n h l = omega arith

cond_finds : (d : Declarations) (t a b : Expression) → ScaleFinds d t → ScaleFinds d a → ScaleFinds d b → ScaleFinds d (Cond t a b)
cond_finds d t a b ht ha hb r k x q =
    let ks : List Kind = kinds_round d r in
    let ss : List ℕ = scales_round d r in
    let node : Site = expression_at k r (Cond t a b) in
    let p = truth_then (kind_of d t ks) (joined (kind_of d a ks) (kind_of d b ks)) x q in
    let m = branches (kind_of d a ks) (kind_of d b ks) x p.rest in
    let ys : List Site = sites_of Once a r (k + 1 + nodes t) in
    let zs : List Site = sites_of Once b r (k + 1 + nodes t + nodes a) in
    let ta : Answer = moved (1 + nodes t) (scale_tried d a ss) in
    let tb : Answer = moved (nodes t) (moved (1 + nodes a) (scale_tried d b ss)) in
    seq (is_scaled d) (sites_of Once t r (k + 1)) (ys ++ (zs ++ node ∷ [])) k (IsScale Truth) (IsScale x) (moved 1 (scale_tried d t ss)) (λ _. then_do ta (λ i. then_do tb (λ j. Ok (max i j)))) (first_part d t r k Truth ht p.first)
    (λ u hu. seq (is_scaled d) ys (zs ++ node ∷ []) k (IsScale m.yes_kind) (IsScale x) ta (λ i. then_do tb (λ j. Ok (max i j))) (second_part d a r k (nodes t) m.yes_kind ha m.yes)
    (λ i hi. seq (is_scaled d) zs (node ∷ []) k (IsScale m.no_kind) (IsScale x) tb (λ j. Ok (max i j)) (third_part d b r k (nodes t) (nodes a) m.no_kind hb m.no)
    (λ j hj.
    let scale = ap₂ (λ (v w : ℕ). max v w) hi.same hj.same ∙ (sym (scale_either m.yes_kind m.no_kind) ∙ ap (λ (u : Kind). scale_of_kind u) m.whole) in
    let g = passes_on d node (kind_of d (Cond t a b) ks) x (max i j) refl q scale (greater i j greatest_scale hi.small hj.small) in
    fine (is_scaled d) node k (IsScale x) (max i j) g.0 g.1)))

acc_finds : (d : Declarations) (body : Expression) (n : ℕ) (first : Expression) → ScaleFinds d body → ScaleFinds d first → ScaleFinds d (Acc body n first)
acc_finds d body n first hb hf r k x q =
    let ks : List Kind = kinds_round d r in
    let ss : List ℕ = scales_round d r in
    let node : Site = expression_at k r (Acc body n first) in
    let p = days (kind_of d first ks) (λ u. kind_of d body (u ∷ ks)) x q in
    let named : kind_or (kind_of d first ks) ≡ x = ap (λ (o : Option Kind). kind_or o) p.first in
    let kinded : kind_of d body (kind_or (kind_of d first ks) ∷ ks) ≡ Some p.body_kind = ap (λ (u : Kind). kind_of d body (u ∷ ks)) named ∙ p.body in
    let ys : List Site = sites_of Once body (Counting body zero first ∷ r) (k + 1) in
    seq (is_scaled d) (sites_of Once first (Earlier n ∷ r) (k + 1 + nodes body)) (ys ++ node ∷ []) k (IsScale x) (IsScale x) (moved (1 + nodes body) (scale_tried d first ss)) (λ s. then_do (moved 1 (scale_tried d body (s ∷ ss))) (λ t. not_above t s)) (second_part d first (Earlier n ∷ r) k (nodes body) x hf p.first)
    (λ s hs.
    let same : scale_of_kind (kind_or (kind_of d first ks)) ≡ s = ap (λ (u : Kind). scale_of_kind u) named ∙ sym hs.same in
    let h : Finds (is_scaled d) ys k (IsScale p.body_kind) (moved 1 (scale_tried d body (s ∷ ss))) =
    subst (λ (i : ℕ). Finds (is_scaled d) ys k (IsScale p.body_kind) (moved 1 (scale_tried d body (i ∷ ss)))) same (first_part d body (Counting body zero first ∷ r) k p.body_kind hb kinded) in
    seq (is_scaled d) ys (node ∷ []) k (IsScale p.body_kind) (IsScale x) (moved 1 (scale_tried d body (s ∷ ss))) (λ t. not_above t s) h
    (λ t ht. takes d node k x t s refl
    (ap₂ (λ (o u : Option Kind). nat_le (scale_or_zero o) greatest_scale && nat_le (scale_or_zero u) (scale_of d first ks)) q kinded
    ∙ ap (λ (o : Option Kind). nat_le (scale_of_kind x) greatest_scale && nat_le (scale_of_kind p.body_kind) (scale_or_zero o)) p.first
    ∙ ap₂ (λ (w j : ℕ). nat_le w greatest_scale && nat_le j w) (sym hs.same) (sym ht.same)) hs.same))

pub scale_finds : (d : Declarations) (e : Expression) → ScaleFinds d e
scale_finds d (Lit m s) r k x q =
    keeps d (expression_at k r (Lit m s)) k (Some (Number s)) x s refl refl q (let same : Number s ≡ x = let w : Some (Number s) ≡ Some x = q in cc in ap (λ (u : Kind). scale_of_kind u) same)
scale_finds d (Yes b) r k x q =
    let same : Truth ≡ x = let w : Some Truth ≡ Some x = q in cc in
    fine (is_scaled d) (expression_at k r (Yes b)) k (IsScale x) 0 refl (record { same = ap (λ (u : Kind). scale_of_kind u) same; small = omega arith })
scale_finds d (Var back) r k x q =
    keeps d (expression_at k r (Var back)) k (slice_get (kinds_round d r) back) x (found_scale (slice_get (scales_round d r) back)) refl refl q (name_scale (kinds_round d r) back x q)
scale_finds d (Obs l t) r k x q =
    keeps d (expression_at k r (Obs l t)) k (kind_of_label (label_of d l)) x (scale_or_zero (kind_of_label (label_of d l))) refl refl q (ap (λ (o : Option Kind). scale_or_zero o) q)
scale_finds d (Neg e) r k x q = neg_finds d e (scale_finds d e) r k x q
scale_finds d (Num op a b) r k x q = num_finds d op a b (scale_finds d a) (scale_finds d b) r k x q
scale_finds d (Cmp op a b) r k x q =
    fixed_finds d a b (Cmp op a b) r k 0 Truth x refl q refl (scale_finds d a) (scale_finds d b) q
scale_finds d (Not e) r k x q = not_finds d e (scale_finds d e) r k x q
scale_finds d (Logic op a b) r k x q = logic_finds d op a b (scale_finds d a) (scale_finds d b) r k x q
scale_finds d (Cond t a b) r k x q = cond_finds d t a b (scale_finds d t) (scale_finds d a) (scale_finds d b) r k x q
scale_finds d (Widen s e) r k x q = widen_finds d s e (scale_finds d e) r k x q
scale_finds d (Round mode s e) r k x q = round_finds d mode s e (scale_finds d e) r k x q
scale_finds d (Div mode s a b) r k x q =
    fixed_finds d a b (Div mode s a b) r k s (Number s) x refl q refl (scale_finds d a) (scale_finds d b) q
scale_finds d (Acc body n first) r k x q = acc_finds d body n first (scale_finds d body) (scale_finds d first) r k x q
