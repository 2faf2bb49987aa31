-- Worked rows: the lines of flows, where EUR has 2 decimals and JPY none. An amount is held in units of the amounts' least
-- decimal, and written at the decimals of its asset.
use Rattle.std.proofs.Common.{◌≡◌, pos, [], ◌∷◌, None, refl}
use Rattle.std.specs.Prelude.{codes}
use Rattle.decimal.specs.Text.{text_of}
use Rattle.term_model.specs.Declarations.{Declarations}
use Rattle.flow_eval.specs.declared.flow_table.FlowRow.{FlowRow}
use Rattle.report.specs.FlowLines.{IsFlowLine, line_with}

-- portfolio 2; amounts 2; party A, B; asset EUR, JPY : 0;
abbrev two_assets : Declarations
two_assets = record { version = 2; amounts = 2; origin = None; start = 0; parties = codes "A" ∷ codes "B" ∷ []; assets = record { 0 = codes "EUR"; 1 = 2 } ∷ record { 0 = codes "JPY"; 1 = 0 } ∷ []; labels = []; templates = [] }

abbrev euros_paid : FlowRow
euros_paid = record { day = pos 0; asset = 0; from = 0; to = 1; amount = pos 150 }

abbrev yen_paid : FlowRow
yen_paid = record { day = pos 0; asset = 1; from = 1; to = 0; amount = pos 15000 }

day_0 : codes "0" ≡ text_of (pos 0) 0
unfolding text_of
day_0 = refl

euros_text : codes "c,0,A,B,EUR,1.50\n" ≡ line_with two_assets (codes "c") (codes "0") euros_paid (pos 150)
unfolding text_of
euros_text = refl

yen_text : codes "c,0,B,A,JPY,150\n" ≡ line_with two_assets (codes "c") (codes "0") yen_paid (pos 150)
unfolding text_of
yen_text = refl

euros : IsFlowLine two_assets (codes "c") euros_paid (codes "c,0,A,B,EUR,1.50\n")
euros = record { day = codes "0"; is_day = day_0; amount = pos 150; is_amount = refl; is_line = euros_text }

yen : IsFlowLine two_assets (codes "c") yen_paid (codes "c,0,B,A,JPY,150\n")
yen = record { day = codes "0"; is_day = day_0; amount = pos 150; is_amount = refl; is_line = yen_text }
