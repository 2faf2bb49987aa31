-- The code of a contract may be printed where its literals are small, as they are where the contract may be printed.
use Rattle.std.proofs.Common.{ℕ, suc}
use Rattle.term_model.specs.Terms.{Expression, Lit, Yes, Var, Obs, Neg, Num, Cmp, Not, Logic, Cond, Widen, Round, Div, Acc}
use Rattle.term_model.specs.Terms.{Contract, Zero, Pay, Both, Scale, After, Let, Within}
use Rattle.contract_grammar.specs.Writable.{IsWritable, IsWritableContract}
use Rattle.payoff_terms.specs.Compiled.{cut_code}
use Rattle.payoff_terms.proofs.WritableFacts.{printable_writable}
use Rattle.payoff_compile.specs.Literals.{HasSmallLiterals, ContractHasSmallLiterals}
use Rattle.payoff_compile.specs.LawsCompiled.{PlainCodeIsWritable, WritableTermsHaveSmallLiterals}

pub plain_writable : PlainCodeIsWritable
plain_writable d c k plain small =
    let both = plain.printable small in
    (printable_writable d k both.0, printable_writable d (cut_code k) both.1)

small_literals : (n : ℕ) (e : Expression) → IsWritable n e → HasSmallLiterals e
small_literals n (Lit m s) h = h.0
small_literals n (Yes b) h = tt
small_literals n (Var back) h = tt
small_literals n (Obs l t) h = tt
small_literals n (Neg e) h = small_literals n e h
small_literals n (Num op a b) h = (small_literals n a h.0, small_literals n b h.1)
small_literals n (Cmp op a b) h = (small_literals n a h.0, small_literals n b h.1)
small_literals n (Not e) h = small_literals n e h
small_literals n (Logic op a b) h = (small_literals n a h.0, small_literals n b h.1)
small_literals n (Cond t a b) h = (small_literals n t h.0, small_literals n a h.1, small_literals n b h.2)
small_literals n (Widen s e) h = small_literals n e h
small_literals n (Round mode s e) h = small_literals n e h
small_literals n (Div mode s a b) h = (small_literals n a h.0, small_literals n b h.1)
small_literals n (Acc body days first) h = (small_literals (suc n) body h.0, small_literals n first h.1)

small_literals_in : (n : ℕ) (c : Contract) → IsWritableContract n c → ContractHasSmallLiterals c
small_literals_in n Zero h = tt
small_literals_in n (Pay a p q) h = tt
small_literals_in n (Both a b) h = (small_literals_in n a h.0, small_literals_in n b h.1)
small_literals_in n (Scale e c) h = (small_literals n e h.0, small_literals_in n c h.1)
small_literals_in n (After m c) h = small_literals_in n c h
small_literals_in n (Let e c) h = (small_literals n e h.0, small_literals_in (suc n) c h.1)
small_literals_in n (Within e m a b) h = (small_literals n e h.0, small_literals_in n a h.1, small_literals_in n b h.2)

pub terms_small : WritableTermsHaveSmallLiterals
terms_small c h = small_literals_in 0 c h.writable
