-- An expression is spelled over every leaf that spells what its own spells.
use Rattle.std.proofs.Common.{true, false, List, ◌∷◌}
use Rattle.term_model.specs.Terms.{Expression, Lit, Yes, Var, Obs, Neg, Num, Cmp, Not, Logic, Cond, Widen, Round, Div, Acc}
use Rattle.term_model.specs.declared.terms.NumOp.TheVariants.{Plus, Minus, Times, Min, Max}
use Rattle.contract_grammar.specs.Tokens.{Tok}
use Rattle.contract_grammar.specs.Words.{Bytes}
use Rattle.contract_grammar.specs.Names.{DeclaredNames}
use Rattle.contract_grammar.specs.Spelling.{Leaf, Part, ◌⨟◌, expr_with}
use Rattle.contract_parse.specs.Readers.{KeepsLeaves}

pub keeps_on : {a b c : DeclaredNames → Leaf} → KeepsLeaves a b → KeepsLeaves b c → KeepsLeaves a c
keeps_on f g = record { keeps = λ s label offset ts rest x. g.keeps s label offset ts rest (f.keeps s label offset ts rest x) }

-- one part gives another
pub record Gives (part next : Part) : Type 0 where
  pub gives : (ts rest : List Tok) → part ts rest → next ts rest

pub same : {part : Part} → Gives part part
same = record { gives = λ ts rest x. x }

infixr 5 ◌▹◌
pub ◌▹◌ : {a b c d : Part} → Gives a b → Gives c d → Gives (a ⨟ c) (b ⨟ d)
f ▹ g = record { gives = λ ts rest x. record { between = x.between; one = f.gives ts x.between x.one; two = g.gives x.between rest x.two } }

module _ (before after : DeclaredNames → Leaf) (kept : KeepsLeaves before after) (s : DeclaredNames) where
  expr_gives : (names : List Bytes) (e : Expression) → Gives (expr_with (before s) names e) (expr_with (after s) names e)
  expr_gives names (Lit m k) = same
  expr_gives names (Yes true) = same
  expr_gives names (Yes false) = same
  expr_gives names (Var back) = same
  expr_gives names (Obs label offset) = record { gives = kept.keeps s label offset }
  expr_gives names (Neg e) = same ▹ same ▹ expr_gives names e ▹ same
  expr_gives names (Not e) = same ▹ same ▹ expr_gives names e ▹ same
  expr_gives names (Num Min l r) = same ▹ same ▹ expr_gives names l ▹ same ▹ expr_gives names r ▹ same
  expr_gives names (Num Max l r) = same ▹ same ▹ expr_gives names l ▹ same ▹ expr_gives names r ▹ same
  expr_gives names (Num Plus l r) = same ▹ expr_gives names l ▹ same ▹ expr_gives names r ▹ same
  expr_gives names (Num Minus l r) = same ▹ expr_gives names l ▹ same ▹ expr_gives names r ▹ same
  expr_gives names (Num Times l r) = same ▹ expr_gives names l ▹ same ▹ expr_gives names r ▹ same
  expr_gives names (Cmp op l r) = same ▹ expr_gives names l ▹ same ▹ expr_gives names r ▹ same
  expr_gives names (Logic op l r) = same ▹ expr_gives names l ▹ same ▹ expr_gives names r ▹ same
  expr_gives names (Cond t a b) = same ▹ same ▹ expr_gives names t ▹ same ▹ expr_gives names a ▹ same ▹ expr_gives names b ▹ same
  expr_gives names (Widen k e) = same ▹ same ▹ same ▹ same ▹ expr_gives names e ▹ same
  expr_gives names (Round m k e) = same ▹ same ▹ same ▹ same ▹ same ▹ same ▹ expr_gives names e ▹ same
  expr_gives names (Div m k a b) = same ▹ same ▹ same ▹ same ▹ same ▹ same ▹ expr_gives names a ▹ same ▹ expr_gives names b ▹ same
  expr_gives names (Acc body n first) = record {
    gives = λ ts rest x.
        record {
          name = x.name;
          spelled = (same ▹ same ▹ same ▹ same ▹ expr_gives (x.name ∷ names) body ▹ same ▹ same ▹ same ▹ expr_gives names first ▹ same).gives ts rest x.spelled;
        };
  }

-- an expression that was spelled still is, and so it is behind another part
pub expr_kept : {before after : DeclaredNames → Leaf} → KeepsLeaves before after → (s : DeclaredNames) (names : List Bytes) (e : Expression) (ts rest : List Tok) → expr_with (before s) names e ts rest → expr_with (after s) names e ts rest
expr_kept {before = before} {after = after} kept s names e ts rest x = (expr_gives before after kept s names e).gives ts rest x

pub behind_kept : {part : Part} {before after : DeclaredNames → Leaf} {ts rest : List Tok} → KeepsLeaves before after → (s : DeclaredNames) (names : List Bytes) (e : Expression) → (part ⨟ expr_with (before s) names e) ts rest → (part ⨟ expr_with (after s) names e) ts rest
behind_kept {before = before} {after = after} {ts = ts} {rest = rest} kept s names e x = (same ▹ expr_gives before after kept s names e).gives ts rest x
