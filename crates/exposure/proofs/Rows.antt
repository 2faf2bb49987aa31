-- Worked rows: what three payments come to, and their lines; and a loan of which one party is renamed.
use Rattle.std.proofs.Common.{◌≡◌, ℕ, ℤ, pos, neg_ℤ, ◌-ℤ◌, ◌*ℤ◌, ◌==◌, ◌&&◌, Bool, true, false, if◌then◌else◌, int_eq, None, List, [], ◌∷◌, refl, ap, ◌∙◌}
use Rattle.std.specs.Prelude.{codes}
use Rattle.std.proofs.Math.IntN.{*ℤ-zero}
use Rattle.decimal.specs.Text.{text_of}
use Rattle.term_model.specs.Declarations.{Declarations}
use Rattle.term_model.specs.DayCounts.{Num as Count, Sum}
use Rattle.term_model.specs.Terms.{Contract, Lit, Pay, Both, Scale, After}
use Rattle.term_model.specs.Environments.{Environment}
use Rattle.term_model.specs.Values.{Entry}
use Rattle.term_model.specs.Flows.{Flow, flow_of, unit_flow}
use Rattle.flow_eval.specs.declared.flow_table.FlowRow.{FlowRow}
use Rattle.exposure.specs.declared.accounts.PositionRow.{PositionRow}
use Rattle.exposure.specs.LiteralLists.{literals_in}
use Rattle.exposure.specs.PositionLines.{IsPositionLine, line_with}
use Rattle.exposure.specs.Positions.{position_in}
use Rattle.exposure.specs.Renaming.{renamed}
use Rattle.exposure.specs.Settlement.{account}
use Rattle.exposure.proofs.TurnTests.{nothing_chosen}

pays : ℕ → ℕ → ℤ → FlowRow
pays p q m = record { day = pos 0; asset = 0; from = p; to = q; amount = m }

-- A pays B 5.00, B pays C 2.00 and C pays A 1.00
abbrev three : List FlowRow
three = pays 0 1 (pos 500) ∷ pays 1 2 (pos 200) ∷ pays 2 0 (pos 100) ∷ []

position_of_a : position_in three (account (pos 0) 0 0) ≡ neg_ℤ (pos 400)
unfolding pays
position_of_a = refl

position_of_b : position_in three (account (pos 0) 0 1) ≡ pos 300
unfolding pays
position_of_b = refl

position_of_c : position_in three (account (pos 0) 0 2) ≡ pos 100
unfolding pays
position_of_c = refl

-- on another day there is nothing
position_later : position_in three (account (pos 1) 0 1) ≡ pos 0
unfolding pays
position_later = refl

-- what a party pays itself counts for nothing
position_of_itself : position_in (pays 0 0 (pos 700) ∷ three) (account (pos 0) 0 0) ≡ neg_ℤ (pos 400)
unfolding pays
position_of_itself = refl

-- ---- lines

-- portfolio 2; amounts 2; party A, B; asset EUR, JPY : 0;
abbrev two_assets : Declarations
two_assets = record { version = 2; amounts = 2; origin = None; start = 0; parties = codes "A" ∷ codes "B" ∷ []; assets = record { 0 = codes "EUR"; 1 = 2 } ∷ record { 0 = codes "JPY"; 1 = 0 } ∷ []; labels = []; templates = [] }

abbrev euros_owed : PositionRow
euros_owed = record { day = pos 0; asset = 0; party = 0; amount = neg_ℤ (pos 400) }

abbrev yen_to_come : PositionRow
yen_to_come = record { day = pos 0; asset = 1; party = 1; amount = pos 15000 }

day_0 : codes "0" ≡ text_of (pos 0) 0
unfolding text_of
day_0 = refl

euros_text : codes "0,A,EUR,-4.00\n" ≡ line_with two_assets (codes "0") euros_owed (neg_ℤ (pos 400))
unfolding text_of
euros_text = refl

yen_text : codes "0,B,JPY,150\n" ≡ line_with two_assets (codes "0") yen_to_come (pos 150)
unfolding text_of
yen_text = refl

euros : IsPositionLine two_assets euros_owed (codes "0,A,EUR,-4.00\n")
euros = record { day = codes "0"; is_day = day_0; amount = neg_ℤ (pos 400); is_amount = refl; is_line = euros_text }

yen : IsPositionLine two_assets yen_to_come (codes "0,B,JPY,150\n")
yen = record { day = codes "0"; is_day = day_0; amount = pos 150; is_amount = refl; is_line = yen_text }

-- ---- renaming

abbrev loan : Contract
loan = After (Count 60) (Scale (Lit (pos 10500) 2) (Pay 0 0 1))

-- C in the place of A, who pays
novated_loan : renamed 0 2 loan ≡ After (Count 60) (Scale (Lit (pos 10500) 2) (Pay 0 2 1))
novated_loan = refl

-- and in the place of B, who is paid
novated_creditor : renamed 1 2 loan ≡ After (Count 60) (Scale (Lit (pos 10500) 2) (Pay 0 0 2))
novated_creditor = refl

-- after 30 days and those of the first template, both ways
novated_sum : renamed 0 2 (After (Sum 30 (0 ∷ [])) (Both (Pay 0 0 1) (Pay 0 1 0))) ≡ After (Sum 30 (0 ∷ [])) (Both (Pay 0 2 1) (Pay 0 1 2))
novated_sum = refl

literals_of_loan : literals_in loan ≡ record { mantissa = pos 10500; scale = 2 } ∷ []
literals_of_loan = refl

-- B in the place of A: a transfer of B to itself
loan_to_itself : renamed 0 1 loan ≡ After (Count 60) (Scale (Lit (pos 10500) 2) (Pay 0 1 1))
loan_to_itself = refl

no_unit : (w : Flow) → unit_flow 0 1 1 w ≡ pos 0
no_unit w = by (0 == w.asset) _
  where
    by : (b : Bool) (x : ℤ) → (if b && false then x else pos 0) ≡ pos 0
    by true x = refl
    by false x = refl

-- which pays nothing to anyone on any day
loan_to_itself_pays_nothing : (d : Declarations) (g : List Entry) (env : Environment) (f n : ℤ) (w : Flow) → flow_of d (renamed 0 1 loan) g env f n w ≡ pos 0
loan_to_itself_pays_nothing d g env f n w =
    ap (λ (z : ℤ). pos 10500 *ℤ z) (nothing_chosen (int_eq (n -ℤ pos 60) (pos 0)) (unit_flow 0 1 1 w) (no_unit w)) ∙ *ℤ-zero (pos 10500)
