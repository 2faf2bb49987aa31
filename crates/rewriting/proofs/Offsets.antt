-- Where a literal takes the place of a name, every offset stays as it is.
use Rattle.std.proofs.Common.{◌≡◌, ℕ, suc, ◌-◌, Bool, true, false, if◌then◌else◌, nat_lt, ◌==◌}
use Rattle.term_model.specs.Terms.{Expression, Lit, Yes, Var, Obs, Neg, Num, Cmp, Not, Logic, Cond, Widen, Round, Div, Acc}
use Rattle.term_model.specs.Redexes.{is_literal}
use Rattle.term_core.specs.SharedTerms.{HasOffsets}
use Rattle.rewriting.specs.Substituting.{substituted, name_without}
use Rattle.rewriting.proofs.ShiftedSizes.{substituted_shifted, shifted_height}

literal_offsets : (x : Expression) → is_literal x ≡ true → HasOffsets x
literal_offsets (Lit m s) h = tt
literal_offsets (Yes b) h = tt
literal_offsets (Var back) h = absurd (cc)
literal_offsets (Obs l t) h = absurd (cc)
literal_offsets (Neg e) h = absurd (cc)
literal_offsets (Num op a b) h = absurd (cc)
literal_offsets (Cmp op a b) h = absurd (cc)
literal_offsets (Not e) h = absurd (cc)
literal_offsets (Logic op a b) h = absurd (cc)
literal_offsets (Cond t a b) h = absurd (cc)
literal_offsets (Widen s e) h = absurd (cc)
literal_offsets (Round mode s e) h = absurd (cc)
literal_offsets (Div mode s a b) h = absurd (cc)
literal_offsets (Acc body n first) h = absurd (cc)

name_offsets : (j : ℕ) (x : Expression) (back : ℕ) → is_literal x ≡ true → HasOffsets (name_without j x back)
name_offsets j x back h = at (nat_lt back j) (back == j)
  where
    at : (b c : Bool) → HasOffsets (if b then Var back else (if c then x else Var (back - 1)))
    at true c = tt
    at false true = literal_offsets x h
    at false false = tt

pub offsets_substituted : (j : ℕ) (x e : Expression) → is_literal x ≡ true → HasOffsets e → HasOffsets (substituted j x e)
offsets_substituted j x (Lit m s) h p = tt
offsets_substituted j x (Yes b) h p = tt
offsets_substituted j x (Var back) h p = name_offsets j x back h
offsets_substituted j x (Obs l t) h p = p
offsets_substituted j x (Neg e) h p = offsets_substituted j x e h p
offsets_substituted j x (Num op a b) h p = (offsets_substituted j x a h p.0, offsets_substituted j x b h p.1)
offsets_substituted j x (Cmp op a b) h p = (offsets_substituted j x a h p.0, offsets_substituted j x b h p.1)
offsets_substituted j x (Not e) h p = offsets_substituted j x e h p
offsets_substituted j x (Logic op a b) h p = (offsets_substituted j x a h p.0, offsets_substituted j x b h p.1)
offsets_substituted j x (Cond t a b) h p = (offsets_substituted j x t h p.0, offsets_substituted j x a h p.1, offsets_substituted j x b h p.2)
offsets_substituted j x (Widen s e) h p = offsets_substituted j x e h p
offsets_substituted j x (Round mode s e) h p = offsets_substituted j x e h p
offsets_substituted j x (Div mode s a b) h p = (offsets_substituted j x a h p.0, offsets_substituted j x b h p.1)
offsets_substituted j x (Acc body n first) h p = (offsets_substituted (suc j) x body h p.0, offsets_substituted j x first h p.1)

-- what a literal in the place of a name leaves as it is
pub ruleset for_substituted = (substituted_shifted, shifted_height, offsets_substituted)
