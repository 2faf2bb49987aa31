-- Blocks: the least and the greatest number of 128 days of a run that stand together.
use Rattle.std.specs.Prelude.{◌≡◌, ◌≢◌, ◌<◌, ◌≤ℤ◌, ◌/◌, ℕ, zero, suc, ℤ, pos, List, [], ◌∷◌, length, slice_index_or}
use Rattle.std.specs.declared.vec.Vec.{Vec}
use Rattle.std.specs.declared.alloc.Global.{Global}
use Rattle.term_model.specs.Values.{num}
use Rattle.fixing_files.specs.Runs.{no_day, run_at}
use Rattle.fixing_files.specs.declared.blocks.Block.{Block}
use Rattle.fixing_files.specs.declared.runs.FixedDay.{FixedDay}

abbrev pub block_days : ℕ
block_days = 128

abbrev pub no_block : Block
no_block = record { low = pos 0; high = pos 0 }

-- the number of run's i-th value
abbrev pub number_at : List FixedDay → ℕ → ℤ
number_at run i = num (slice_index_or run i no_day).value

abbrev pub block_at : List Block → ℕ → Block
block_at blocks k = slice_index_or blocks k no_block

-- a number is at least the low and at most the high of a block
abbrev pub IsWithin : Block → ℤ → Type 0
IsWithin block x = (block.low ≤ℤ x) × (x ≤ℤ block.high)

-- the numbers of all days lie within the block
abbrev pub IsBlockOf : List FixedDay → Block → Type 0
IsBlockOf days block = (i : ℕ) → i < length days → IsWithin block (number_at days i)

-- the number of each day lies within the block of its 128 days, where there is one
abbrev pub AreBlocks : List Block → List FixedDay → Type 0
AreBlocks blocks run =
    (i : ℕ) → i < length run → i / block_days < length blocks → IsWithin (block_at blocks (i / block_days)) (number_at run i)

-- the blocks of a label
abbrev pub blocks_at : List (Vec Block Global) → ℕ → List Block
blocks_at [] l = []
blocks_at (blocks ∷ more) zero = blocks.items
blocks_at (blocks ∷ more) (suc l) = blocks_at more l

-- the blocks of each label are those of its run
abbrev pub AreBlocksOf : List (Vec Block Global) → List (Vec FixedDay Global) → Type 0
AreBlocksOf blocks runs = (l : ℕ) → AreBlocks (blocks_at blocks l) (run_at runs l)

-- the blocks of the other labels are those before
abbrev pub AreKept : List (Vec Block Global) → List (Vec Block Global) → ℕ → Type 0
AreKept before after label = (l : ℕ) → l ≢ label → blocks_at after l ≡ blocks_at before l
