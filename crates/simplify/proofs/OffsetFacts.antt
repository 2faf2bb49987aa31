-- A turn keeps every offset within its limit.
use Rattle.std.proofs.Common.{pos, [], max, nat_lt, Bool, true, false, if◌then◌else◌, ℕ, List, ◌∷◌}
use Rattle.term_model.specs.Declarations.{Declarations}
use Rattle.term_model.specs.declared.values.Kind.{Kind}
use Rattle.term_model.specs.Terms.{Expression, Lit, Yes, Var, Obs, Neg, Num, Cmp, Not, Logic, Cond, Widen, Round, Div, Acc}
use Rattle.term_model.specs.Kinds.{kind_of, scale_of}
use Rattle.term_model.specs.Values.{kind_or, value_of}
use Rattle.term_model.specs.Redexes.{has_literal_operands}
use Rattle.term_core.specs.SharedTerms.{HasOffsets}
use Rattle.rewriting.specs.Replacing.{branch_at}
use Rattle.simplify.specs.Turning.{resolved, choice, is_chosen, rule, turned}
use Rattle.specialise.proofs.StoredFacts.{literal_offsets}

either_offsets : (b : Bool) (x y : Expression) → HasOffsets x → HasOffsets y → HasOffsets (if b then x else y)
either_offsets true x y h k = h
either_offsets false x y h k = k

branch_offsets : (i s : ℕ) (e : Expression) → HasOffsets e → HasOffsets (branch_at i s e)
branch_offsets i s e h = either_offsets (nat_lt i s) (Widen s e) e h h

resolved_offsets : (d : Declarations) (ks : List Kind) (e : Expression) → HasOffsets e → HasOffsets (resolved d ks e)
resolved_offsets d ks (Logic op (Yes v) b) h = either_offsets _ (Yes v) b tt h.1
resolved_offsets d ks (Logic op a b) h = h.1
resolved_offsets d ks e h = literal_offsets (kind_or (kind_of d e ks)) (value_of d e [] [] (pos 0))

choice_offsets : (d : Declarations) (ks : List Kind) (e : Expression) → HasOffsets e → HasOffsets (choice d ks e)
choice_offsets d ks (Cond (Yes v) a b) h =
    let i = scale_of d a ks in
    let j = scale_of d b ks in
    either_offsets v (branch_at i (max i j) a) (branch_at j (max i j) b) (branch_offsets i (max i j) a h.1) (branch_offsets j (max i j) b h.2)
choice_offsets d ks (Cond t a b) h = h.2
choice_offsets d ks (Acc body n first) h = h.1
choice_offsets d ks e h = h

rule_offsets : (d : Declarations) (ks : List Kind) (e : Expression) → HasOffsets e → HasOffsets (rule d ks e)
rule_offsets d ks e h =
    either_offsets (has_literal_operands e) (resolved d ks e) (if is_chosen e then choice d ks e else e) (resolved_offsets d ks e h)
    (either_offsets (is_chosen e) (choice d ks e) e (choice_offsets d ks e h) h)

pub offsets_turned : (d : Declarations) (ks : List Kind) (e : Expression) → HasOffsets e → HasOffsets (turned d ks e)
offsets_turned d ks (Lit m s) h = h
offsets_turned d ks (Yes b) h = h
offsets_turned d ks (Var back) h = h
offsets_turned d ks (Obs l t) h = h
offsets_turned d ks (Neg e) h = rule_offsets d ks (Neg (turned d ks e)) (offsets_turned d ks e h)
offsets_turned d ks (Not e) h = rule_offsets d ks (Not (turned d ks e)) (offsets_turned d ks e h)
offsets_turned d ks (Widen s e) h = rule_offsets d ks (Widen s (turned d ks e)) (offsets_turned d ks e h)
offsets_turned d ks (Round mode s e) h = rule_offsets d ks (Round mode s (turned d ks e)) (offsets_turned d ks e h)
offsets_turned d ks (Num op a b) h = rule_offsets d ks (Num op (turned d ks a) (turned d ks b)) (offsets_turned d ks a h.0, offsets_turned d ks b h.1)
offsets_turned d ks (Cmp op a b) h = rule_offsets d ks (Cmp op (turned d ks a) (turned d ks b)) (offsets_turned d ks a h.0, offsets_turned d ks b h.1)
offsets_turned d ks (Logic op a b) h = rule_offsets d ks (Logic op (turned d ks a) (turned d ks b)) (offsets_turned d ks a h.0, offsets_turned d ks b h.1)
offsets_turned d ks (Div mode s a b) h = rule_offsets d ks (Div mode s (turned d ks a) (turned d ks b)) (offsets_turned d ks a h.0, offsets_turned d ks b h.1)
offsets_turned d ks (Cond t a b) h = rule_offsets d ks (Cond (turned d ks t) (turned d ks a) (turned d ks b)) (offsets_turned d ks t h.0, offsets_turned d ks a h.1, offsets_turned d ks b h.2)
offsets_turned d ks (Acc body n first) h =
    let js = kind_or (kind_of d first ks) ∷ ks in
    rule_offsets d ks (Acc (turned d js body) n (turned d ks first)) (offsets_turned d js body h.0, offsets_turned d ks first h.1)
