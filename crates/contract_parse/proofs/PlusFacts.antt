-- A plus between the items of a sum, and between the number of a date and its templates.
use Rattle.std.proofs.Common.{◌≡◌, cond, List, ◌∷◌, ap}
use Rattle.std.specs.Prelude.{codes}
use Rattle.contract_grammar.specs.Tokens.{Tok}
use Rattle.contract_grammar.specs.Words.{Bytes}
use Rattle.contract_grammar.specs.Names.{DeclaredNames}
use Rattle.contract_grammar.specs.Sums.{Tally}
use Rattle.contract_grammar.specs.Spelling.{mark}
use Rattle.contract_parse.specs.Expecting.{Expected, ItemAt, MoreItems, MoreTemplates, Next, UseOf, run, step}
use Rattle.contract_parse.specs.Reading.{LacksMark}
use Rattle.contract_parse.proofs.Steps.{run-next, run-same}

module _ (s : DeclaredNames) (ps : List Expected) where
  pub plus_opens : (ts rest : List Tok) → mark (codes "+") ts rest → run s (MoreTemplates ∷ ps) ts ≡ run s (UseOf s.templates ∷ MoreTemplates ∷ ps) rest
  plus_opens ts rest (t, is, passes) =
      rw is (run-next s s (MoreTemplates ∷ ps) (UseOf s.templates ∷ MoreTemplates ∷ ps) t rest (ap (λ b. cond b (Next s (UseOf s.templates ∷ MoreTemplates ∷ ps)) (step s ps t)) passes))

  pub plus_lacks : (ts : List Tok) → LacksMark (codes "+") ts → run s (MoreTemplates ∷ ps) ts ≡ run s ps ts
  plus_lacks ts x = rw x.is (run-same s (MoreTemplates ∷ ps) ps x.first x.after (ap (λ b. cond b (Next s (UseOf s.templates ∷ MoreTemplates ∷ ps)) (step s ps x.first)) x.other))

module _ (s : DeclaredNames) (templates : List Bytes) (p : Tally) (ps : List Expected) where
  pub item_opens : (ts rest : List Tok) → mark (codes "+") ts rest → run s (MoreItems templates p ∷ ps) ts ≡ run s (ItemAt templates p ∷ ps) rest
  item_opens ts rest (t, is, passes) =
      rw is (run-next s s (MoreItems templates p ∷ ps) (ItemAt templates p ∷ ps) t rest (ap (λ b. cond b (Next s (ItemAt templates p ∷ ps)) (step s ps t)) passes))

  pub item_lacks : (ts : List Tok) → LacksMark (codes "+") ts → run s (MoreItems templates p ∷ ps) ts ≡ run s ps ts
  item_lacks ts x = rw x.is (run-same s (MoreItems templates p ∷ ps) ps x.first x.after (ap (λ b. cond b (Next s (ItemAt templates p ∷ ps)) (step s ps x.first)) x.other))
