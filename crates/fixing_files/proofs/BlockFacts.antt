-- Blocks of days, and the labels that have them.
use Rattle.std.proofs.Common.{◌≡◌, ◌≢◌, ◌∙◌, inl, inr, ℕ, zero, suc, ◌+◌, ◌-◌, ◌*◌, ◌/◌, ◌<◌, ◌≤◌, ◌==◌, true, false, List, [], ◌∷◌, ◌++◌, length, get_or, set, drop, Some, slice_get, refl, sym, ap, subst, arith}
use Rattle.std.specs.Prelude.{◌≤ℤ◌}
use Rattle.std.specs.List.{slice_range}
use Rattle.std.specs.declared.vec.Vec.{Vec}
use Rattle.std.specs.declared.alloc.Global.{Global}
use Rattle.std.proofs.Math.ListN.{get_or-append}
use Rattle.std.proofs.Math.Seq.{get_or-append_seam}
use Rattle.std.proofs.lemmas.Bool.{cases_Bool, cases_lt}
use Rattle.std.proofs.lemmas.Bool.Decides.{nat_tests}
use Rattle.std.proofs.lemmas.Int.{ints}
use Rattle.std.proofs.lemmas.List.{get_or-drop, get_or-take, length-append, length-drop, length-take}
use Rattle.std.proofs.lemmas.Option.{slice_get_read}
use Rattle.term_model.specs.Values.{num}
use Rattle.fixing_files.specs.Blocks.{AreBlocks, AreBlocksOf, AreKept, IsBlockOf, IsWithin, block_at, block_days, blocks_at, no_block, number_at}
use Rattle.fixing_files.specs.Runs.{no_day, run_at}
use Rattle.fixing_files.specs.declared.blocks.Block.{Block}
use Rattle.fixing_files.specs.declared.runs.FixedDay.{FixedDay}
use Rattle.fixing_files.proofs.RunFacts.{run_read}

abbrev Run : Type 0
Run = List FixedDay

abbrev Runs : Type 0
Runs = List (Vec FixedDay Global)

abbrev Blocks : Type 0
Blocks = List (Vec Block Global)

same_number : (a b : ℕ) → (a == b) ≡ true → a ≡ b
same_number a b h = grind (arith, nat_tests)

not_same : (a b : ℕ) → (a == b) ≡ false → a ≢ b
not_same a b h e = let itself : (a == b) ≡ true = grind (arith, nat_tests) in absurd (cc)

run_else : (runs : Runs) (l : ℕ) (run : Vec FixedDay Global) (k : ℕ) → l ≢ k → run_at (set runs l run) k ≡ run_at runs k
run_else [] l run k other = refl
run_else (r ∷ runs) zero run zero other = absurd (other refl)
run_else (r ∷ runs) zero run (suc k) other = refl
run_else (r ∷ runs) (suc l) run zero other = refl
run_else (r ∷ runs) (suc l) run (suc k) other = run_else runs l run k (λ e. other (ap suc e))

-- the blocks of a label that are read

blocks_of : (blocks : Blocks) (l : ℕ) (of : Vec Block Global) → slice_get blocks l ≡ Some of → blocks_at blocks l ≡ of.items
blocks_of [] l of h = absurd (cc)
blocks_of (b ∷ blocks) zero of h = let same : b ≡ of = cc in ap (λ (x : Vec Block Global). x.items) same
blocks_of (b ∷ blocks) (suc l) of h = blocks_of blocks l of h

pub blocks_read : (blocks : Blocks) (l : ℕ) (of : Vec Block Global) → l < length blocks → of ≡ get_or blocks l of → blocks_at blocks l ≡ of.items
blocks_read blocks l of within is = blocks_of blocks l of (slice_get_read blocks (length blocks) l of refl within is)

pub blocks_past : (blocks : Blocks) (l : ℕ) → length blocks ≤ l → blocks_at blocks l ≡ []
blocks_past [] l h = refl
blocks_past (b ∷ blocks) zero h = absurd (omega (arith, h))
blocks_past (b ∷ blocks) (suc l) h = blocks_past blocks l (omega arith)

-- a label whose blocks are changed

pub blocks_here : (blocks : Blocks) (l : ℕ) (of : Vec Block Global) → l < length blocks → blocks_at (set blocks l of) l ≡ of.items
blocks_here [] l of h = absurd (omega (arith, h))
blocks_here (b ∷ blocks) zero of h = refl
blocks_here (b ∷ blocks) (suc l) of h = blocks_here blocks l of (omega arith)

pub blocks_there : (blocks : Blocks) (l : ℕ) (of : Vec Block Global) → AreKept blocks (set blocks l of) l
blocks_there [] l of k other = refl
blocks_there (b ∷ blocks) zero of zero other = absurd (other refl)
blocks_there (b ∷ blocks) zero of (suc k) other = refl
blocks_there (b ∷ blocks) (suc l) of zero other = refl
blocks_there (b ∷ blocks) (suc l) of (suc k) other = blocks_there blocks l of k (λ e. other (ap suc e))

-- a run without blocks

pub no_blocks : (blocks : List Block) (run : Run) → blocks ≡ [] → AreBlocks blocks run
no_blocks blocks run none i within has = absurd (omega (arith, has, ap length none))

pub same_blocks : (b : List Block) (r : Run) (blocks : List Block) (run : Run) → blocks ≡ b → run ≡ r → AreBlocks b r → AreBlocks blocks run
same_blocks b r blocks run same here are = subst (λ (x : List Block). AreBlocks x run) (sym same) (subst (λ (x : Run). AreBlocks b x) (sym here) are)

-- one more day within a block

pub one_more : (old new : Block) (days : Run) (k : ℕ) → ((i : ℕ) → i < k → IsWithin old (number_at days i))
    → new.low ≤ℤ old.low → old.high ≤ℤ new.high → IsWithin new (number_at days k) → (i : ℕ) → i < k + 1 → IsWithin new (number_at days i)
one_more old new days k all low high here i within = elim (cases_lt i k) [
  | inl before ↦ let in_old = all i before in (omega (arith, ints, low, in_old.0), omega (arith, ints, high, in_old.1))
  | inr behind ↦ let at : k ≡ i = omega arith in subst (λ (j : ℕ). IsWithin new (number_at days j)) at here
]

-- one more block of a run

ranged : (run : Run) (from i : ℕ) (d : FixedDay) → i < block_days → get_or (slice_range run from (from + block_days)) i d ≡ get_or run (from + i) d
ranged run from i d within =
    let few : i < from + block_days - from = omega arith in
    get_or-take (from + block_days - from) (drop from run) i d few ∙ get_or-drop from run i d

ranged_long : (run : Run) (from : ℕ) → from + block_days ≤ length run → length (slice_range run from (from + block_days)) ≡ block_days
ranged_long run from fits = simp (length-take, length-drop) (omega arith)

pub one_more_block : (blocks : List Block) (run : Run) (k : ℕ) (b : Block) → length blocks ≡ k → AreBlocks blocks run → IsBlockOf (slice_range run (k * block_days) (k * block_days + block_days)) b
    → k * block_days + block_days ≤ length run → AreBlocks (blocks ++ b ∷ []) run
one_more_block blocks run k b long are is fits i within has = elim (cases_lt (i / block_days) k) [
  | inl before ↦
      let inside : i / block_days < length blocks = omega arith in
      let same : block_at (blocks ++ b ∷ []) (i / block_days) ≡ block_at blocks (i / block_days) = get_or-append blocks (b ∷ []) no_block (i / block_days) inside in
      subst (λ (x : Block). IsWithin x (number_at run i)) (sym same) (are i within inside)
  | inr behind ↦
      let last : i / block_days ≡ k = omega (arith, has, long, length-append blocks (b ∷ [])) in
      let at : block_at (blocks ++ b ∷ []) (i / block_days) ≡ b = ap (block_at (blocks ++ b ∷ [])) (last ∙ sym long) ∙ get_or-append_seam blocks b [] no_block in
      let j : ℕ = i - k * block_days in
      let few : j < block_days = omega arith in
      let back : k * block_days + j ≡ i = omega arith in
      let number : number_at (slice_range run (k * block_days) (k * block_days + block_days)) j ≡ number_at run i =
      ap (λ (f : FixedDay). num f.value) (ranged run (k * block_days) j no_day few) ∙ ap (number_at run) back in
      let inside : j < length (slice_range run (k * block_days) (k * block_days + block_days)) = omega (arith, ranged_long run (k * block_days) fits) in
      subst (λ (x : Block). IsWithin x (number_at run i)) (sym at) (subst (IsWithin b) number (is j inside))
]

-- one more label

pushed_at : (blocks : Blocks) (of : Vec Block Global) → blocks_at (blocks ++ of ∷ []) (length blocks) ≡ of.items
pushed_at [] of = refl
pushed_at (b ∷ blocks) of = pushed_at blocks of

pushed_before : (blocks : Blocks) (of : Vec Block Global) (k : ℕ) → k ≢ length blocks → blocks_at (blocks ++ of ∷ []) k ≡ blocks_at blocks k
pushed_before [] of zero other = absurd (other refl)
pushed_before [] of (suc k) other = refl
pushed_before (b ∷ blocks) of zero other = refl
pushed_before (b ∷ blocks) of (suc k) other = pushed_before blocks of k (λ e. other (ap suc e))

pub one_more_label : (blocks : Blocks) (runs : Runs) (k : ℕ) (of : Vec Block Global) (run : Vec FixedDay Global) → length blocks ≡ k → AreBlocksOf blocks runs → k < length runs → run ≡ get_or runs k run
    → AreBlocks of.items run.items → AreBlocksOf (blocks ++ of ∷ []) runs
one_more_label blocks runs k of run long are within is here l = elim (cases_Bool (l == k)) [
  | inl same ↦
      let at : l ≡ k = same_number l k same in
      let of_label : blocks_at (blocks ++ of ∷ []) l ≡ of.items = ap (blocks_at (blocks ++ of ∷ [])) (at ∙ sym long) ∙ pushed_at blocks of in
      let run_is : run_at runs l ≡ run.items = ap (run_at runs) at ∙ run_read runs k run within is in
      same_blocks of.items run.items (blocks_at (blocks ++ of ∷ []) l) (run_at runs l) of_label run_is here
  | inr other ↦
      let apart : l ≢ length blocks = λ e. not_same l k other (e ∙ long) in
      same_blocks (blocks_at blocks l) (run_at runs l) (blocks_at (blocks ++ of ∷ []) l) (run_at runs l) (pushed_before blocks of l apart) refl (are l)
]

-- a label whose run is changed has no blocks

pub blocks_dropped : (before after : Blocks) (runs grown changed : Runs) (l : ℕ) (run : Vec FixedDay Global) → AreBlocksOf before runs → blocks_at after l ≡ [] → AreKept before after l
    → ((k : ℕ) → run_at grown k ≡ run_at runs k) → changed ≡ set grown l run → AreBlocksOf after changed
blocks_dropped before after runs grown changed l run are none kept same is k = elim (cases_Bool (k == l)) [
  | inl here ↦
      let at : k ≡ l = same_number k l here in
      no_blocks (blocks_at after k) (run_at changed k) (ap (blocks_at after) at ∙ none)
  | inr there ↦
      let apart : k ≢ l = not_same k l there in
      let read : run_at changed k ≡ run_at runs k = ap (λ (r : Runs). run_at r k) is ∙ run_else grown l run k (λ e. apart (sym e)) ∙ same k in
      same_blocks (blocks_at before k) (run_at runs k) (blocks_at after k) (run_at changed k) (kept k apart) read (are k)
]
