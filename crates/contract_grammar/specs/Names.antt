-- Sets of declared names, and the names that are bound round a term.
use Rattle.std.specs.Prelude.{ℕ, suc, Bool, List, [], ◌∷◌, Option, Some, None, map, option_map, position, if◌then◌else◌}
use Rattle.std.specs.Borrow.{Bor}
use Rattle.std.specs.List.{list_any}
use Rattle.std.specs.Map.{keys_of}
use Rattle.std.specs.Str.{bytes_eq}
use Rattle.contract_grammar.specs.Words.{Bytes}
use Rattle.contract_grammar.specs.Versions.{Version, One, version_of}
use Rattle.contract_grammar.specs.declared.names.NameSet.{NameSet}
use Rattle.contract_grammar.specs.declared.names.NameSet.TheVariants.{Party, Asset, Label, Template, Contract}
use Rattle.term_model.specs.Declarations.{Declarations}
use Rattle.term_model.specs.Scopes.{held_in}
use Rattle.term_model.specs.declared.scope.Scope.{Scope}

-- the index of a name in declared order
abbrev pub index_in : List Bytes → Bytes → Option ℕ
index_in names text = position (λ name. bytes_eq text name) names

abbrev pub is_declared : List Bytes → Bytes → Bool
is_declared names text = list_any (λ name. bytes_eq text name) names

-- how many binders stand between a name and its own, the innermost of that name
abbrev pub back_to : List Bytes → Bytes → Option ℕ
back_to [] name = None
back_to (inner ∷ outer) name = if bytes_eq inner name then Some 0 else option_map (λ back. suc back) (back_to outer name)

-- the names that are bound round a term, as the program has them
abbrev pub BoundNames : Type 0
BoundNames = Scope (Bor Bytes)

-- the same, innermost first
abbrev pub names_in : BoundNames → List Bytes
names_in bound = map (λ name. name.now) (held_in bound)

-- the version of a text, and the five sets of names that it declares
pub record DeclaredNames : Type 0 where
  pub version : Version
  pub parties : List Bytes
  pub assets : List Bytes
  pub labels : List Bytes
  pub templates : List Bytes
  pub contracts : List Bytes

-- no name of a text of this version
abbrev pub nothing_in : Version → DeclaredNames
nothing_in v = record { version = v; parties = []; assets = []; labels = []; templates = []; contracts = [] }

-- where a text begins
abbrev pub nothing_declared : DeclaredNames
nothing_declared = nothing_in One

abbrev pub names_of : NameSet → DeclaredNames → List Bytes
names_of Party s = s.parties
names_of Asset s = s.assets
names_of Label s = s.labels
names_of Template s = s.templates
names_of Contract s = s.contracts

abbrev pub with_names : NameSet → List Bytes → DeclaredNames → DeclaredNames
with_names Party names s = record s { parties = names }
with_names Asset names s = record s { assets = names }
with_names Label names s = record s { labels = names }
with_names Template names s = record s { templates = names }
with_names Contract names s = record s { contracts = names }

-- the names of declarations, and of contracts that stand below them
abbrev pub declared_by : Declarations → List Bytes → DeclaredNames
declared_by d contracts =
    record {
      version = version_of d.version;
      parties = d.parties;
      assets = keys_of d.assets;
      labels = keys_of d.labels;
      templates = keys_of d.templates;
      contracts = contracts;
    }
