-- How large a whole is, from the sizes of its parts. The limits are those of the rule on sizes.
use Rattle.std.specs.Prelude.{ℕ, ◌+◌, ◌-◌, ◌*◌, ◌≤◌, max, Bool, Result, Ok, Err, if◌then◌else◌}
use Rattle.term_model.specs.Limits.{most_days, most_height, most_nodes, most_reach_and_past, most_work}
use Rattle.term_model.specs.Smallness.{within_limits}
use Rattle.scale_check.specs.declared.part_sizes.Size.{Size}

-- an expression without parts
abbrev pub leaf : ℕ → Size
leaf back = record { height = 1; nodes = 1; reach = 0; past = back; work = 1 }

-- an operator on one, two and three operands
abbrev pub over_one : Size → Size
over_one a =
    record {
      height = a.height + 1;
      nodes = a.nodes + 1;
      reach = 0;
      past = a.past;
      work = 1 + a.work;
    }

abbrev pub over_two : Size → Size → Size
over_two a b =
    record {
      height = max a.height b.height + 1;
      nodes = a.nodes + b.nodes + 1;
      reach = 0;
      past = max a.past b.past;
      work = 1 + (a.work + b.work);
    }

abbrev pub over_three : Size → Size → Size → Size
over_three t a b =
    record {
      height = max t.height (max a.height b.height) + 1;
      nodes = t.nodes + a.nodes + b.nodes + 1;
      reach = 0;
      past = max t.past (max a.past b.past);
      work = 1 + (t.work + a.work + b.work);
    }

-- an accumulator over n days
abbrev pub over_days : Size → ℕ → Size → Size
over_days body n first =
    record {
      height = max body.height first.height + 1;
      nodes = body.nodes + first.nodes + 1;
      reach = 0;
      past = max (first.past + n) (body.past + (n - 1));
      work = 1 + (first.work + n * body.work);
    }

-- a contract without parts
abbrev pub unit : Size
unit = record { height = 1; nodes = 1; reach = 0; past = 0; work = 0 }

-- two parts that stand on the same day
abbrev pub together : Size → Size → Size
together a b =
    record {
      height = max a.height b.height + 1;
      nodes = a.nodes + b.nodes + 1;
      reach = max a.reach b.reach;
      past = max a.past b.past;
      work = a.work + b.work;
    }

-- a part n days later
abbrev pub delayed : ℕ → Size → Size
delayed n c =
    record {
      height = c.height + 1;
      nodes = c.nodes + 1;
      reach = n + c.reach;
      past = c.past;
      work = c.work;
    }

-- a test on up to n days after the first, with a branch for each outcome
abbrev pub tested : Size → ℕ → Size → Size → Size
tested e n a b =
    record {
      height = max e.height (max a.height b.height) + 1;
      nodes = e.nodes + a.nodes + b.nodes + 1;
      reach = n + max a.reach b.reach;
      past = max e.past (max a.past b.past);
      work = (n + 1) * e.work + a.work + b.work;
    }

-- a part of a count of days is within the limits
abbrev pub is_within : ℕ → Size → Bool
is_within days s = within_limits s.height s.nodes days s.reach s.past s.work

-- the size of such a part, else a fault here
abbrev pub limited : ℕ → Size → Result Size ℕ
limited days s = if is_within days s then Ok s else Err 0

-- what is known of the size of such a part
pub record IsLimited (s : Size) : Type 0 where
  pub height_in : s.height ≤ most_height
  pub nodes_in : s.nodes ≤ most_nodes
  pub reach_in : s.reach ≤ most_days
  pub past_in : s.past ≤ most_reach_and_past
  pub work_in : s.work ≤ most_work
