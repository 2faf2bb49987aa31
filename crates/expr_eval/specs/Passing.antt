-- Blocks of days on which a watch cannot be met.
use Rattle.std.specs.Prelude.{◌≡◌, ◌<◌, ℕ, ℤ, pos, ◌+ℤ◌, false, List, Ok}
use Rattle.term_model.specs.declared.terms.CmpOp.{CmpOp}
use Rattle.term_model.specs.declared.terms.CmpOp.TheVariants.{Less, LessEq, Greater, GreaterEq, Equal, Unequal}
use Rattle.term_model.specs.declared.values.Value.{Value}
use Rattle.term_model.specs.Environments.{Environment}
use Rattle.term_model.specs.Values.{cmp_op, num}
use Rattle.fixing_files.specs.Blocks.{IsWithin}
use Rattle.fixing_files.specs.Runs.{LendsDays}
use Rattle.fixing_files.specs.declared.blocks.Block.{Block}
use Rattle.fixing_files.specs.declared.runs.FixedDay.{FixedDay}
use Rattle.expr_eval.specs.declared.watches.Watch.{Watch}
use Rattle.expr_eval.specs.Watching.{is_met, met_on}

-- the comparison that holds exactly where another does not
abbrev pub opposite : CmpOp → CmpOp
opposite Less = GreaterEq
opposite LessEq = Greater
opposite Greater = LessEq
opposite GreaterEq = Less
opposite Equal = Unequal
opposite Unequal = Equal

-- a comparison with a bound holds of no number of a block
abbrev pub IsBeyond : CmpOp → Block → ℤ → Type 0
IsBeyond op block bound = (x : ℤ) → IsWithin block x → cmp_op op x bound ≡ false

-- no value whose number lies within a block meets a watch
abbrev pub CannotMeet : Watch → Block → Type 0
CannotMeet w block = (v : Value) → IsWithin block (num v) → is_met w v ≡ false

-- where a run lends the days of the watch's label, the watch is met on none of 128 days, and none is missing
abbrev pub IsPassed : Watch → List FixedDay → ℤ → Type 0
IsPassed w run t = (env : Environment) → LendsDays env w.label run → (i : ℕ) → i < 128 → met_on w env (t +ℤ pos i) ≡ Ok false
