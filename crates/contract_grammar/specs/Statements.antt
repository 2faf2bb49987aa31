-- The grammar of declarations and of whole portfolios.
use Rattle.std.specs.Prelude.{◌≡◌, ◌≤◌, ◌⊎◌, ℕ, ℤ, List, [], ◌∷◌, ◌++◌, Option, Some, None, codes}
use Rattle.std.specs.Map.{keys_of}
use Rattle.term_model.specs.Declarations.{Declarations}
use Rattle.term_model.specs.Books.{Book}
use Rattle.term_model.specs.Terms.{Contract}
use Rattle.term_model.specs.Sizes.{height_of_contract}
use Rattle.term_model.specs.declared.label.Label.{Label}
use Rattle.term_model.specs.declared.label.Label.TheVariants as label
use Rattle.contract_grammar.specs.Tokens.{Tok}
use Rattle.contract_grammar.specs.Words.{Bytes}
use Rattle.contract_grammar.specs.Versions.{Version, One, Two, version_of}
use Rattle.contract_grammar.specs.Names.{DeclaredNames, declared_by}
use Rattle.contract_grammar.specs.Judgements.{bound_at, integer_at, is_the_version, new_at, origin_at}
pub use Rattle.contract_grammar.specs.Spelling.{Repeat, none, more}
use Rattle.contract_grammar.specs.Spelling.{Part, Signed, ◌⨟◌, contr, end, mark, nothing, one, valued, word}

-- a new name, at the end of the names before it
pub record Added (before after : List Bytes) (ts rest : List Tok) : Type 0 where
  pub name : Bytes
  pub is : after ≡ before ++ name ∷ []
  pub spelled : valued (new_at before) name ts rest

-- `, NAME`
abbrev pub comma_name : List Bytes → List Bytes → Part
comma_name before after = mark (codes ",") ⨟ Added before after

-- `NAME { , NAME } ;`
pub record NameList (before after : List Bytes) (ts rest : List Tok) : Type 0 where
  pub first : List Bytes
  pub spelled : (Added before first ⨟ Repeat comma_name first after ⨟ mark (codes ";")) ts rest

-- the word and its names
abbrev pub name_line : Bytes → List Bytes → List Bytes → Part
name_line w before after = word w ⨟ NameList before after

abbrev pub name_lines : Bytes → List Bytes → Part
name_lines w names = Repeat (name_line w) [] names

-- an entry with a new name, at the end of the entries before it
pub record Entry {V : Type 0}
    (line : List (Bytes × V) → Bytes → V → Part) (before after : List (Bytes × V)) (ts rest : List Tok) : Type 0 where
  pub name : Bytes
  pub value : V
  pub is : after ≡ before ++ (name, value) ∷ []
  pub spelled : line before name value ts rest

-- a new name beside entries
abbrev pub new_name : {V : Type 0} → List (Bytes × V) → Bytes → Part
new_name before name = valued (new_at (keys_of before)) name

-- `: scale in low .. high`
abbrev pub range : ℕ → ℤ → ℤ → Part
range scale low high =
    mark (codes ":") ⨟ valued (integer_at 18) scale ⨟ word (codes "in") ⨟ Signed (λ negative. valued (bound_at negative scale None) low)
    ⨟ mark (codes "..") ⨟ Signed (λ negative. valued (bound_at negative scale (Some low)) high)

abbrev pub label_line : List (Bytes × Label) → Bytes → Label → Part
label_line before name (label.Number scale low high) = word (codes "num") ⨟ new_name before name ⨟ range scale low high ⨟ mark (codes ";")
label_line before name label.Flag = word (codes "flag") ⨟ new_name before name ⨟ mark (codes ";")

abbrev pub template_line : List (Bytes × ℕ) → Bytes → ℕ → Part
template_line before name days =
    word (codes "template") ⨟ new_name before name ⨟ mark (codes "=") ⨟ valued (integer_at 100_000) days ⨟ mark (codes ";")

-- the depth of a contract is 1, and at most 200 terms are open at once
abbrev pub shallow : Contract → Part
shallow c ts rest = (ts ≡ rest) × (height_of_contract c ≤ 200)

abbrev pub contract_line : DeclaredNames → List (Bytes × Contract) → Bytes → Contract → Part
contract_line s before name c =
    word (codes "contract") ⨟ new_name before name ⨟ mark (codes "=") ⨟ contr s [] c ⨟ shallow c ⨟ mark (codes ";")

-- the same behind its word, by the names before it alone
abbrev pub named_contract : DeclaredNames → List Bytes → Bytes → Contract → Part
named_contract s before name c = valued (new_at before) name ⨟ mark (codes "=") ⨟ contr s [] c ⨟ shallow c ⨟ mark (codes ";")

abbrev pub origin_line : Option ℤ → Part
origin_line None = nothing
origin_line (Some day) = word (codes "origin") ⨟ valued origin_at day ⨟ mark (codes ";")

-- without this line the start is 0
abbrev pub start_line : ℕ → Part
start_line day ts rest = ((day ≡ 0) × (ts ≡ rest)) ⊎ (word (codes "start") ⨟ valued (integer_at 1_000_000) day ⨟ mark (codes ";")) ts rest

-- the decimals of an asset: those of the amounts, and in version 2 any up to these behind a colon
abbrev pub decimals_part : Version → ℕ → ℕ → Part
decimals_part One amounts decimals ts rest = (decimals ≡ amounts) × (ts ≡ rest)
decimals_part Two amounts decimals ts rest =
    ((decimals ≡ amounts) × (ts ≡ rest)) ⊎ (mark (codes ":") ⨟ valued (integer_at amounts) decimals) ts rest

abbrev pub asset_item : Version → ℕ → List (Bytes × ℕ) → Bytes → ℕ → Part
asset_item v amounts before name decimals = new_name before name ⨟ decimals_part v amounts decimals

-- `, NAME` with its decimals
abbrev pub comma_asset : Version → ℕ → List (Bytes × ℕ) → List (Bytes × ℕ) → Part
comma_asset v amounts before after = mark (codes ",") ⨟ Entry (asset_item v amounts) before after

-- the assets of one line, behind its word
pub record AssetList (v : Version) (amounts : ℕ) (before after : List (Bytes × ℕ)) (ts rest : List Tok) : Type 0 where
  pub first : List (Bytes × ℕ)
  pub spelled : (Entry (asset_item v amounts) before first ⨟ Repeat (comma_asset v amounts) first after ⨟ mark (codes ";")) ts rest

abbrev pub asset_line : Version → ℕ → List (Bytes × ℕ) → List (Bytes × ℕ) → Part
asset_line v amounts before after = word (codes "asset") ⨟ AssetList v amounts before after

abbrev pub asset_lines : Version → ℕ → List (Bytes × ℕ) → Part
asset_lines v amounts assets = Repeat (asset_line v amounts) [] assets

abbrev pub decls : Declarations → Part
decls d =
    word (codes "amounts") ⨟ valued (integer_at 12) d.amounts ⨟ mark (codes ";") ⨟ origin_line d.origin ⨟ start_line d.start
    ⨟ name_lines (codes "party") d.parties ⨟ asset_lines (version_of d.version) d.amounts d.assets
    ⨟ Repeat (Entry label_line) [] d.labels ⨟ Repeat (Entry template_line) [] d.templates

-- the first line and the declarations
abbrev pub beginning : Declarations → Part
beginning d = word (codes "portfolio") ⨟ one (is_the_version d.version) ⨟ mark (codes ";") ⨟ decls d

abbrev pub portfolio : Book → Part
portfolio b =
    word (codes "portfolio") ⨟ one (is_the_version b.declarations.version) ⨟ mark (codes ";") ⨟ decls b.declarations
    ⨟ Repeat (Entry (contract_line (declared_by b.declarations []))) [] b.contracts ⨟ end
