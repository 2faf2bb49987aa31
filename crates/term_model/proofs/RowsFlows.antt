-- Worked rows of flows: a loan, a touch, an average and the roundings.
use Rattle.std.proofs.Common.{◌≡◌, ℤ, pos, neg_ℤ, negsuc, [], refl}
use Rattle.decimal.specs.Rounding.{at_scale, divided}
use Rattle.decimal.specs.declared.Mode.{Mode}
use Rattle.decimal.specs.declared.Mode.TheVariants.{HalfEven, HalfAway, Floor, Ceil}
use Rattle.term_model.specs.declared.values.Value.TheVariants.{Num as Amount}
use Rattle.term_model.specs.Terms.{Lit, Var, Div, Round, Acc, Pay, Scale}
use Rattle.term_model.specs.Values.{value_of}
use Rattle.term_model.specs.Flows.{amount_of}
use Rattle.term_model.specs.Horizons.{horizon_of}
use Rattle.term_model.proofs.RowsSample.{with_fx, a_to_b, b_to_a, pay_ab, loan, touch, fx, level, average}

loan_pays_at_once : amount_of with_fx loan [] (pos 0) (pos 0) a_to_b ≡ pos 10000
loan_pays_at_once = refl

loan_pays_back : amount_of with_fx loan [] (pos 0) (pos 90) b_to_a ≡ pos 10500
loan_pays_back = refl

loan_the_other_way : amount_of with_fx loan [] (pos 0) (pos 90) a_to_b ≡ negsuc 10499
loan_the_other_way = refl

loan_between : amount_of with_fx loan [] (pos 0) (pos 45) a_to_b ≡ pos 0
loan_between = refl

loan_horizon : horizon_of loan ≡ 91
loan_horizon = refl

-- nothing is paid to oneself
to_oneself : amount_of with_fx (Pay 0 0 0) [] (pos 0) (pos 0) (record { from = 0; to = 0; asset = 0 }) ≡ pos 0
to_oneself = refl

-- the rate is above 1.1000 on day 3 alone
fires : amount_of with_fx (touch 3) (fx (pos 3) (pos 12000) level) (pos 0) (pos 3) a_to_b ≡ pos 100
fires = refl

does_not_fire : amount_of with_fx (touch 3) (fx (pos 3) (pos 10000) level) (pos 0) (pos 3) b_to_a ≡ pos 200
does_not_fire = refl

not_before : amount_of with_fx (touch 3) (fx (pos 3) (pos 10000) level) (pos 0) (pos 2) b_to_a ≡ pos 0
not_before = refl

today_only : amount_of with_fx (touch 0) level (pos 0) (pos 0) b_to_a ≡ pos 200
today_only = refl

averaged : amount_of with_fx average (fx (pos 1) (pos 10000) (fx (pos 2) (pos 11000) (fx (pos 3) (pos 12000) []))) (pos 0) (pos 3) a_to_b ≡ pos 110
unfolding divided
averaged = refl

-- the start of an accumulator of 0 days is its value, whatever its body divides by
no_steps : value_of with_fx (Acc (Div HalfEven 2 (Var 0) (Lit (pos 0) 0)) 0 (Lit (pos 700) 2)) [] [] (pos 0) ≡ Amount (pos 700)
no_steps = refl

-- scale(round(mode, 2, m of 3 decimals), AB), from A to B
abbrev rounded_amount : Mode → ℤ → ℤ
rounded_amount mode m = amount_of with_fx (Scale (Round mode 2 (Lit m 3)) pay_ab) [] (pos 0) (pos 0) a_to_b

even_125 : rounded_amount HalfEven (pos 125) ≡ pos 12
unfolding at_scale
even_125 = refl

away_125 : rounded_amount HalfAway (pos 125) ≡ pos 13
unfolding at_scale
away_125 = refl

floor_125 : rounded_amount Floor (pos 125) ≡ pos 12
unfolding at_scale
floor_125 = refl

ceil_125 : rounded_amount Ceil (pos 125) ≡ pos 13
unfolding at_scale
ceil_125 = refl

even_135 : rounded_amount HalfEven (pos 135) ≡ pos 14
unfolding at_scale
even_135 = refl

away_135 : rounded_amount HalfAway (pos 135) ≡ pos 14
unfolding at_scale
away_135 = refl

floor_135 : rounded_amount Floor (pos 135) ≡ pos 13
unfolding at_scale
floor_135 = refl

ceil_135 : rounded_amount Ceil (pos 135) ≡ pos 14
unfolding at_scale
ceil_135 = refl

even_minus_125 : rounded_amount HalfEven (neg_ℤ (pos 125)) ≡ neg_ℤ (pos 12)
unfolding at_scale
even_minus_125 = refl

away_minus_125 : rounded_amount HalfAway (neg_ℤ (pos 125)) ≡ neg_ℤ (pos 13)
unfolding at_scale
away_minus_125 = refl

floor_minus_125 : rounded_amount Floor (neg_ℤ (pos 125)) ≡ neg_ℤ (pos 13)
unfolding at_scale
floor_minus_125 = refl

ceil_minus_125 : rounded_amount Ceil (neg_ℤ (pos 125)) ≡ neg_ℤ (pos 12)
unfolding at_scale
ceil_minus_125 = refl
