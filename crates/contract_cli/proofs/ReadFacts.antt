-- What is read of the files of a command, one after another, and what stops a run at one of them.
use Rattle.std.proofs.Common.{◌≡◌, ◌≢◌, ◌∙◌, ◌≤◌, ◌<◌, ◌+◌, ℕ, suc, List, [], ◌∷◌, ◌++◌, Bor, inl, inr, length, take, drop, get_or, le_trans, ap, arith, subst, sym}
use Rattle.std.specs.Prelude.{Option, IfSome, IsSome}
use Rattle.std.specs.List.{All}
use Rattle.std.proofs.lemmas.List.{take_more, get_or-map, append_assoc, take-append-drop, length-map}
use Rattle.std.proofs.lemmas.List.Elements.{All-get_or}
use Rattle.edge_io.specs.Counts.{Rose}
use Rattle.edge_io.specs.Files.{CountsOnly}
use Rattle.clap.specs.Walk.{texts}
use Rattle.report.specs.declared.fault_lines.Fault.{Fault}
use Rattle.contract_cli.specs.Reading.{FileFault, read_failed, read_long, StopsReading, WereRead}
use Rattle.contract_cli.specs.Seen.{CountsOnlyOf, FilesSeen, WasRead, longest_file, seen}

-- ---- one file more

pub were_more : (contents : List ℕ → Option (List ℕ)) (names read : List (List ℕ)) (file bytes : List ℕ) → WereRead contents names read → WasRead contents file bytes
    → WereRead contents (names ++ file ∷ []) (read ++ bytes ∷ [])
were_more contents [] [] file bytes h w = (w, tt)
were_more contents [] (x ∷ xs) file bytes h w = absurd h
were_more contents (n ∷ ns) [] file bytes h w = absurd h
were_more contents (n ∷ ns) (x ∷ xs) file bytes h w = (h.0, were_more contents ns xs file bytes h.1 w)

pub stops_behind : (files : FilesSeen) (names read : List (List ℕ)) (file : List ℕ) (more : List (List ℕ)) (place : ℕ) (f : Fault) → WereRead files.contents names read
    → FileFault files file (place + length names) f → StopsReading files (names ++ file ∷ more) place f
stops_behind files [] [] file more place f h k = inl (subst (λ (x : ℕ). FileFault files file x f) (omega arith) k)
stops_behind files [] (x ∷ xs) file more place f h k = absurd h
stops_behind files (n ∷ ns) [] file more place f h k = absurd h
stops_behind files (n ∷ ns) (x ∷ xs) file more place f h k =
    inr (x, h.0, stops_behind files ns xs file more (suc place) f h.1 (subst (λ (y : ℕ). FileFault files file y f) (omega arith) k))

-- ---- the name at an index

pub texts_more : (names : List (Bor (List ℕ))) (i : ℕ) (d : Bor (List ℕ)) → i < length names → take (i + 1) (texts names) ≡ take i (texts names) ++ (get_or names i d).now ∷ []
texts_more names i d lt =
    take_more (texts names) i d.now (subst (λ (n : ℕ). i < n) (sym (length-map names (λ (word : Bor (List ℕ)). word.now))) lt)
    ∙ ap (λ (x : List ℕ). take i (texts names) ++ x ∷ []) (get_or-map (λ (word : Bor (List ℕ)). word.now) names i d d.now lt)

pub texts_split : (names : List (Bor (List ℕ))) (i : ℕ) (d : Bor (List ℕ)) → i < length names
    → texts names ≡ take i (texts names) ++ (get_or names i d).now ∷ drop (i + 1) (texts names)
texts_split names i d lt =
    sym (take-append-drop (i + 1) (texts names)) ∙ ap (λ (xs : List (List ℕ)). xs ++ drop (i + 1) (texts names)) (texts_more names i d lt)
    ∙ append_assoc (take i (texts names)) ((get_or names i d).now ∷ []) (drop (i + 1) (texts names))

pub other_name : (names : List (Bor (List ℕ))) (i : ℕ) (d : Bor (List ℕ)) → i < length names → (file : List ℕ) → All (λ name. file ≢ name) (texts names) → file ≢ (get_or names i d).now
other_name names i d lt file all =
    let there = All-get_or (λ (name : List ℕ). file ≢ name) (texts names) i d.now (subst (λ (n : ℕ). i < n) (sym (length-map names (λ (word : Bor (List ℕ)). word.now))) lt) all in
    subst (λ (x : List ℕ). file ≢ x) (get_or-map (λ (word : Bor (List ℕ)). word.now) names i d d.now lt) there

-- ---- a file that was read in a part of a run

module _ (contents middle : List ℕ → Option (List ℕ)) (before between after : List ℕ → ℕ) (kept : (file : List ℕ) → middle file ≡ contents file) where
  pub seen_told : (file bytes : List ℕ) → WasRead middle file bytes → WasRead contents file bytes
  seen_told file bytes w = record { told = subst (λ (o : Option (List ℕ)). IfSome o (λ all. bytes ≡ all)) (kept file) w.told; fits = w.fits }

  rose_before : (a b c : ℕ) → a ≤ b → Rose b c → Rose a c
  rose_before a b c less rose = grind arith

  pub fault_seen : (file : List ℕ) (place : ℕ) (f : Fault) → before file ≤ between file → FileFault (seen middle between after) file place f
      → FileFault (seen contents before after) file place f
  fault_seen file place f less (read_failed is rose) = read_failed is (rose_before (before file) (between file) (after file) less rose)
  fault_seen file place f less (read_long is long) =
      read_long is (subst (λ (o : Option (List ℕ)). IfSome o (λ all. longest_file < length all)) (kept file) long)

  pub counts_more : (names : List (List ℕ)) (name : List ℕ) → ((file : List ℕ) → All (λ n. file ≢ n) names → file ≢ name)
      → CountsOnlyOf names (seen contents before between) → CountsOnly middle between after name → CountsOnlyOf names (seen contents before after)
  counts_more names name apart h k = record {
    later = λ file. le_trans (h.later file) (k.later file);
    others = λ file unnamed told. k.others file (apart file unnamed) (subst (λ (o : Option (List ℕ)). IsSome o) (sym (kept file)) told) ∙ h.others file unnamed told;
  }
