-- Runs over lent files and a text that was empty.
use Rattle.std.proofs.Common.{◌≡◌, ℕ, List, [], Some, None, Option, option_map, refl, subst, sym}
use Rattle.std.specs.Prelude.{IsSome}
use Rattle.std.specs.Option.{option_map_or}
use Rattle.command_courses.specs.declared.status.Status.{Status}
use Rattle.contract_cli.specs.Seen.{Edge, seen, sink_left}
use Rattle.in_process.specs.declared.lent.NamedBytes.{NamedBytes}
use Rattle.in_process.specs.Lent.{LentState, contents_in, faults_in, file_named}
use Rattle.in_process.specs.Taken.{TextState}
use Rattle.in_process.specs.Ends.{edge_over}

no_fault : (found : Option NamedBytes) (missing : ℕ) → IsSome (option_map (λ f. f.bytes.now) found) → option_map_or (λ f. 0) found missing ≡ 0
no_fault None missing some = absurd cc
no_fault (Some f) missing some = refl

-- no read of a lent file has failed
pub lent_unfailing : (now files : List NamedBytes) (missing : ℕ) (name : List ℕ)
    → contents_in now name ≡ contents_in files name → IsSome (contents_in files name) → faults_in now missing name ≡ 0
lent_unfailing now files missing name kept some = no_fault (file_named now name) missing (subst (λ (o : Option (List ℕ)). IsSome o) (sym kept) some)

-- what holds of a run over these files and this sink holds over what they are
pub over_lent : (P : List (List ℕ) → Edge → Status → Type 0) (given words : List (List ℕ)) (lent : LentState) (files : List NamedBytes)
    (failed : List ℕ → ℕ) (sink : TextState) (text : List ℕ) (faults : ℕ) (s : Status)
    → given ≡ words → lent ≡ record { files = files; missing = 0 } → sink ≡ record { bytes = []; faults = 0 } → faults ≡ 0
    → P given (record {
      files = seen (contents_in lent.files) (faults_in lent.files lent.missing) failed;
      sink = sink_left (Some sink.bytes) (Some text) sink.faults faults;
    }) s
    → P words (edge_over files failed text) s
over_lent P given words lent files failed sink text faults s same_words same_files same_sink none holds =
    subst (λ (w : List (List ℕ)). P w (edge_over files failed text) s) same_words (
    subst (λ (l : LentState). P given (record { files = seen (contents_in l.files) (faults_in l.files l.missing) failed; sink = sink_left (Some []) (Some text) 0 0 }) s) same_files (
    subst (λ (t : TextState). P given (record { files = seen (contents_in lent.files) (faults_in lent.files lent.missing) failed; sink = sink_left (Some t.bytes) (Some text) t.faults 0 }) s) same_sink (
    subst (λ (n : ℕ). P given (record { files = seen (contents_in lent.files) (faults_in lent.files lent.missing) failed; sink = sink_left (Some sink.bytes) (Some text) sink.faults n }) s) none holds)))
