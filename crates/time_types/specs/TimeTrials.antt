-- The day from which an expression is known, and the day from which a contract may transfer, or the place of its first
-- node that breaks the rule on times. Both are days of the whole contract: a part that stands n days later has its day
-- 0 at n, and names keep their days, so that no context is lowered or raised. This goes by structure, each part once;
-- proofs/StartFacts and proofs/TimeFaults show that it finds what the rule says.
use Rattle.std.specs.Prelude.{ℕ, ℤ, pos, ◌+◌, ◌*◌, ◌^◌, ◌+ℤ◌, ◌-ℤ◌, ◌≤◌, unsigned_abs, Bool, true, not, int_lt, List, ◌∷◌, Option, Some, None, Result, Ok, Err, if◌then◌else◌, slice_get}
use Rattle.std.specs.Int.{int_max, int_min}
use Rattle.term_model.specs.Terms.{Expression, Lit, Yes, Var, Obs, Neg, Num, Cmp, Not, Logic, Cond, Widen, Round, Div, Acc}
use Rattle.term_model.specs.Terms.{Contract, Zero, Pay, Both, Scale, After, Let, Within}
use Rattle.term_model.specs.Flows.{count_of}
use Rattle.term_model.specs.Sizes.{nodes, nodes_of_contract}
use Rattle.time_types.specs.declared.starts.Start.{Start}
use Rattle.time_types.specs.declared.starts.Start.TheVariants.{Day, Always}
use Rattle.term_core.specs.Trying.{then_do, moved}

-- a day from which h steps, each of less than 2^32 days, stay far within the days that a program counts
abbrev pub HasRoom : ℕ → ℤ → Type 0
HasRoom h day = unsigned_abs day + h * 2 ^ 32 ≤ 2 ^ 62

-- from when a name is known that was looked for
abbrev pub name_known : Option (Option ℤ) → Option ℤ
name_known None = None
name_known (Some known) = known

-- from when both are known
abbrev pub later : Option ℤ → Option ℤ → Option ℤ
later None b = b
later (Some a) None = Some a
later (Some a) (Some b) = Some (int_max a b)

-- the day from which an expression is known that stands on a day, or none where it is known on each
abbrev pub known_from : ℤ → List (Option ℤ) → Expression → Option ℤ
known_from day names (Lit m s) = None
known_from day names (Yes b) = None
known_from day names (Var back) = name_known (slice_get names back)
known_from day names (Obs l t) = Some (day +ℤ t)
known_from day names (Neg e) = known_from day names e
known_from day names (Num op a b) = later (known_from day names a) (known_from day names b)
known_from day names (Cmp op a b) = later (known_from day names a) (known_from day names b)
known_from day names (Not e) = known_from day names e
known_from day names (Logic op a b) = later (known_from day names a) (known_from day names b)
known_from day names (Cond t a b) =
    later (known_from day names t) (later (known_from day names a) (known_from day names b))
known_from day names (Widen s e) = known_from day names e
known_from day names (Round mode s e) = known_from day names e
known_from day names (Div mode s a b) = later (known_from day names a) (known_from day names b)
known_from day names (Acc body n first) =
    later (known_from day (None ∷ names) body) (known_from (day -ℤ pos n) names first)

abbrev pub earlier : Start → Start → Start
earlier Always b = b
earlier (Day a) Always = Day a
earlier (Day a) (Day b) = Day (int_min a b)

-- is known when a contract starts
abbrev pub is_known_at : Option ℤ → Start → Bool
is_known_at None s = true
is_known_at (Some known) Always = true
is_known_at (Some known) (Day s) = not (int_lt s known)

abbrev pub Answer : Type 0
Answer = Result Start ℕ

-- the answer where an expression is known at a start, else a fault here
abbrev pub in_time : Option ℤ → Start → Start → Answer
in_time known at answer = if is_known_at known at then Ok answer else Err 0

-- the start of a contract that stands on a day, or the place of the fault
abbrev pub start_tried : ℤ → List (Option ℤ) → Contract → Answer
start_tried day names Zero = Ok Always
start_tried day names (Pay a p q) = Ok (Day day)
start_tried day names (Both a b) =
    then_do (moved 1 (start_tried day names a))
    (λ s. then_do (moved (1 + nodes_of_contract a) (start_tried day names b)) (λ t. Ok (earlier s t)))
start_tried day names (Scale e c) =
    then_do (moved (1 + nodes e) (start_tried day names c)) (λ s. in_time (known_from day names e) s s)
start_tried day names (After n c) = moved 1 (start_tried (day +ℤ pos (count_of n)) names c)
start_tried day names (Let e c) = moved (1 + nodes e) (start_tried day (known_from day names e ∷ names) c)
start_tried day names (Within e n a b) =
    then_do (moved (1 + nodes e) (start_tried day names a))
    (λ s. then_do (moved (nodes e) (moved (1 + nodes_of_contract a) (start_tried (day +ℤ pos (count_of n)) names b)))
    (λ t. in_time (known_from day names e) (Day day) (earlier s t)))
