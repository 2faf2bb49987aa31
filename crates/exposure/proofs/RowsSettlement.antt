-- Worked rows: payments among a few parties, and those that settle them, in turn, on a day in an asset. Parties are numbers
-- in declared order, as 0 for A.
use Rattle.std.proofs.Common.{ℕ, pos, List, [], ◌∷◌, refl}
use Rattle.std.specs.List.{filter}
use Rattle.flow_eval.specs.declared.flow_table.FlowRow.{FlowRow}
use Rattle.exposure.specs.Positions.{is_on, position_in}
use Rattle.exposure.specs.Settlement.{PayInTurn, account}
use Rattle.exposure.proofs.TurnTests.{settled_by_test}

abbrev row : ℕ → ℕ → ℕ → ℕ → FlowRow
row a p q m = record { day = pos 0; asset = a; from = p; to = q; amount = pos m }

-- the rows are settled in turn on day 0 in an asset, of which there may be several
abbrev AreSettledIn : ℕ → List FlowRow → List FlowRow → Type 0
AreSettledIn a rows settled = PayInTurn (λ p. position_in rows (account (pos 0) a p)) (filter (is_on (pos 0) a) settled)

-- A pays B 5.00, B pays C 2.00 and C pays A 1.00: A pays B 3.00 and C 1.00
abbrev three : List FlowRow
three = row 0 0 1 500 ∷ row 0 1 2 200 ∷ row 0 2 0 100 ∷ []

abbrev three_settled : List FlowRow
three_settled = row 0 0 1 300 ∷ row 0 0 2 100 ∷ []

three_owe : AreSettledIn 0 three three_settled
three_owe = settled_by_test 3 (pos 0) 0 three three_settled refl

-- one debtor, three creditors
abbrev one_debtor : List FlowRow
one_debtor = row 0 0 1 500 ∷ row 0 0 2 200 ∷ row 0 0 3 100 ∷ []

one_owes_many : AreSettledIn 0 one_debtor one_debtor
one_owes_many = settled_by_test 4 (pos 0) 0 one_debtor one_debtor refl

-- three debtors, one creditor
abbrev one_creditor : List FlowRow
one_creditor = row 0 1 0 500 ∷ row 0 2 0 200 ∷ row 0 3 0 100 ∷ []

many_owe_one : AreSettledIn 0 one_creditor one_creditor
many_owe_one = settled_by_test 4 (pos 0) 0 one_creditor one_creditor refl

-- two debtors, A with 5 and B with 3, and two creditors, C and D with 4 each, by four payments: three settle them
abbrev crossed : List FlowRow
crossed = row 0 0 2 2 ∷ row 0 0 3 3 ∷ row 0 1 2 2 ∷ row 0 1 3 1 ∷ []

abbrev crossed_settled : List FlowRow
crossed_settled = row 0 0 2 4 ∷ row 0 0 3 1 ∷ row 0 1 3 3 ∷ []

two_owe_two : AreSettledIn 0 crossed crossed_settled
two_owe_two = settled_by_test 4 (pos 0) 0 crossed crossed_settled refl

-- three that owe in a ring: A pays B 5, B pays C 3 and C pays A 1, so A alone owes
abbrev ring : List FlowRow
ring = row 0 0 1 5 ∷ row 0 1 2 3 ∷ row 0 2 0 1 ∷ []

abbrev ring_settled : List FlowRow
ring_settled = row 0 0 1 2 ∷ row 0 0 2 2 ∷ []

ring_owes : AreSettledIn 0 ring ring_settled
ring_owes = settled_by_test 3 (pos 0) 0 ring ring_settled refl

-- a ring of equal amounts comes to nothing
abbrev even_ring : List FlowRow
even_ring = row 0 0 1 5 ∷ row 0 1 2 5 ∷ row 0 2 0 5 ∷ []

ring_cancels : AreSettledIn 0 even_ring []
ring_cancels = settled_by_test 3 (pos 0) 0 even_ring [] refl

-- so do two payments between the same two, and what a party pays itself
abbrev back_and_forth : List FlowRow
back_and_forth = row 0 0 1 5 ∷ row 0 1 0 5 ∷ row 0 2 2 7 ∷ []

both_cancel : AreSettledIn 0 back_and_forth []
both_cancel = settled_by_test 3 (pos 0) 0 back_and_forth [] refl

-- two assets on a day are settled each alone: A owes B 5 in the one, and B owes A 3 in the other
abbrev two_assets : List FlowRow
two_assets = row 0 0 1 5 ∷ row 1 1 0 3 ∷ []

first_asset : AreSettledIn 0 two_assets two_assets
first_asset = settled_by_test 2 (pos 0) 0 two_assets two_assets refl

second_asset : AreSettledIn 1 two_assets two_assets
second_asset = settled_by_test 2 (pos 0) 1 two_assets two_assets refl
