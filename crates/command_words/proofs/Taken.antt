-- The answer of a parse, by what the command line crate states of it.
use Rattle.std.proofs.Common.{◌≡◌, ◌∙◌, List, [], ◌∷◌, Bool, true, false, ◌&&◌, Some, None, refl, sym, ap, inl, inr}
use Rattle.clap.specs.Words.{App, Text, is_simple, is_simple_and_free, fault_of, matches_of, rows_of, first_of, all_of, found_of, kind_of}
use Rattle.clap.specs.Kinds.{Kinds, IsAmong, HasKind}
use Rattle.clap.specs.declared.parser.matches.ArgMatches.{ArgMatches}
use Rattle.clap.specs.declared.error.kind.ErrorKind.{ErrorKind}
use Rattle.clap.specs.declared.error.kind.ErrorKind.TheVariants as kind
use Rattle.clap.specs.declared.error.Error.{Error}
use Rattle.clap.proofs.WalkLemmas.{first_value-rows, raw_values-rows}
use Rattle.command_words.specs.Arguments.{Holds, taken}

both_true : (a b : Bool) → (a && b) ≡ true → a ≡ true
both_true true b h = refl
both_true false b h = cc

pub simple : (app : App) → is_simple_and_free app ≡ true → is_simple app ≡ true
simple app h = both_true _ _ h

pub takes : (app : App) (words : List Text) → fault_of app words ≡ [] → taken app words ≡ Some (matches_of app words)
unfolding taken
takes app words none = rw none refl

pub holds : (app : App) (words : List Text) (m : ArgMatches) → rows_of (found_of m) ≡ matches_of app words → Holds (matches_of app words) m
holds app words m rows = record {
  first = λ name. first_value-rows (found_of m) name ∙ ap (first_of name) rows;
  all = λ name. raw_values-rows (found_of m) name ∙ ap (all_of name) rows;
}

among : (app : App) (words : List Text) (k : ErrorKind) (ks : Kinds) → ks ≡ fault_of app words → IsAmong k ks → taken app words ≡ None
unfolding taken
among app words k [] same h = absurd h
among app words k (x ∷ xs) same h = rw (sym same) refl

-- a refusal that is no want of memory
pub refuses : (app : App) (words : List Text) (e : Error) → HasKind (fault_of app words) e → (kind_of e ≡ kind.OutOfMemory → ⊥) → taken app words ≡ None
refuses app words e (inl memory) other = absurd (other memory)
refuses app words e (inr one) other = among app words (kind_of e) (fault_of app words) refl one
