-- How large payoff code is: its nodes, its height, the steps in which it is evaluated, and how many days its loops move
-- the base at most, one within another. A loop adds its days to those of the branch that it enters on its days, since
-- the other branch keeps the base.
use Rattle.std.specs.Prelude.{ℕ, ℤ, pos, negsuc, ◌+◌, ◌*◌, max, List}
use Rattle.term_model.specs.Sizes.{nodes, height, work}
use Rattle.payoff_terms.specs.TemplateDates.{day_of}
use Rattle.payoff_terms.specs.Dating.{undated}
use Rattle.payoff_terms.specs.Code.{PayoffCode, Nothing, PayOn, Add, ScaleBy, LetBe, Loop, Cut}

abbrev pub nodes_of_code : PayoffCode → ℕ
nodes_of_code Nothing = 1
nodes_of_code (PayOn x a p q) = 1
nodes_of_code (Add k l) = nodes_of_code k + nodes_of_code l + 1
nodes_of_code (ScaleBy v k) = nodes (undated v) + nodes_of_code k + 1
nodes_of_code (LetBe v k) = nodes (undated v) + nodes_of_code k + 1
nodes_of_code (Loop v x k l) = nodes (undated v) + nodes_of_code k + nodes_of_code l + 1
nodes_of_code (Cut x k) = nodes_of_code k + 1

abbrev pub height_of_code : PayoffCode → ℕ
height_of_code Nothing = 1
height_of_code (PayOn x a p q) = 1
height_of_code (Add k l) = max (height_of_code k) (height_of_code l) + 1
height_of_code (ScaleBy v k) = max (height (undated v)) (height_of_code k) + 1
height_of_code (LetBe v k) = max (height (undated v)) (height_of_code k) + 1
height_of_code (Loop v x k l) = max (height (undated v)) (max (height_of_code k) (height_of_code l)) + 1
height_of_code (Cut x k) = height_of_code k + 1

-- a number of days, 0 below 0
abbrev pub as_count : ℤ → ℕ
as_count (pos n) = n
as_count (negsuc n) = 0

abbrev pub work_of_code : List ℕ → PayoffCode → ℕ
work_of_code xs Nothing = 0
work_of_code xs (PayOn x a p q) = 0
work_of_code xs (Add k l) = work_of_code xs k + work_of_code xs l
work_of_code xs (ScaleBy v k) = work (undated v) + work_of_code xs k
work_of_code xs (LetBe v k) = work (undated v) + work_of_code xs k
work_of_code xs (Loop v x k l) = (as_count (day_of xs x) + 1) * work (undated v) + work_of_code xs k + work_of_code xs l
work_of_code xs (Cut x k) = work_of_code xs k

abbrev pub loop_days : List ℕ → PayoffCode → ℕ
loop_days xs Nothing = 0
loop_days xs (PayOn x a p q) = 0
loop_days xs (Add k l) = max (loop_days xs k) (loop_days xs l)
loop_days xs (ScaleBy v k) = loop_days xs k
loop_days xs (LetBe v k) = loop_days xs k
loop_days xs (Loop v x k l) = max (as_count (day_of xs x) + loop_days xs k) (loop_days xs l)
loop_days xs (Cut x k) = loop_days xs k
