-- What a text holds is bounded by its length.
use Rattle.std.proofs.Common.{◌≡◌, ℕ, ℤ, ◌+◌, ◌-◌, ◌*◌, ◌<◌, ◌≤◌, Bool, false, Option, Some, None, Ok, List, [], ◌∷◌, ◌++◌, length, length-append, sym, ap, inl, inr, arith, subst}
use Rattle.std.specs.Prelude.{All, codes}
use Rattle.std.specs.List.{sum_by}
use Rattle.std.proofs.lemmas.List.Sums.{sum_by_push}
use Rattle.std.proofs.lemmas.List.Elements.{All-nil, All-push}
use Rattle.std.proofs.lemmas.Bool.{cases_Bool}
use Rattle.term_model.specs.declared.label.Label.{Label}
use Rattle.term_model.specs.declared.label.Label.TheVariants as label
use Rattle.term_model.specs.Terms.{Contract}
use Rattle.term_model.specs.Sizes.{nodes_of_contract}
use Rattle.term_model.specs.Declarations.{Declarations}
use Rattle.term_model.specs.Books.{Book}
use Rattle.contract_grammar.specs.Tokens.{Tok, is_last, tokens}
use Rattle.contract_grammar.specs.Words.{Bytes, is_name}
use Rattle.contract_grammar.specs.Versions.{Version, One, Two, version_of}
use Rattle.contract_grammar.specs.Names.{DeclaredNames, declared_by}
use Rattle.contract_grammar.specs.Judgements.{bound_at, integer_at, is_the_version, new_at, origin_at}
use Rattle.contract_grammar.specs.Spelling.{Part, contr, mark, one, valued}
use Rattle.contract_grammar.specs.Statements.{Added, Entry, Repeat, none, more, asset_item, asset_line, comma_asset, comma_name, contract_line, decimals_part, decls, label_line, name_line, named_contract, origin_line, range, shallow, start_line, template_line}
use Rattle.contract_grammar.specs.Texts.{Text}
use Rattle.contract_grammar.specs.Payments.{payments_in}
use Rattle.contract_grammar.specs.TextLaws.{NamesFit}
use Rattle.contract_grammar.proofs.TokenKinds.{the_name}
use Rattle.contract_grammar.proofs.Weights.{AtLeast, ◌▹◌, byte_least, contr_least, lighter, mark_least, payments_least, signed_least, value_least, weight, weight_tokens, word_least}

-- ---- any number of times

-- what grows takes bytes
abbrev Grows : {A : Type 0} → (A → ℕ) → (A → A → Part) → Type 0
Grows {A} f line = (a b : A) (ts rest : List Tok) → line a b ts rest → f b + weight rest ≤ f a + weight ts

repeat_grows : {A : Type 0} (f : A → ℕ) (line : A → A → Part) → Grows f line → Grows f (Repeat line)
repeat_grows f line grows a b ts rest none = omega arith
repeat_grows f line grows a b ts rest (more {b = c} {between = k} x xs) = omega (arith, grows a c ts k x, repeat_grows f line grows c b k rest xs)

-- each entry takes what it adds
entry_grows : {V : Type 0} (f : List (Bytes × V) → ℕ) (g : Bytes × V → ℕ) (line : List (Bytes × V) → Bytes → V → Part) → ((es : List (Bytes × V)) (e : Bytes × V) → f (es ++ e ∷ []) ≡ f es + g e)
    → ((es : List (Bytes × V)) (name : Bytes) (v : V) → AtLeast (g (name, v)) (line es name v)) → Grows f (Entry line)
entry_grows f g line push least a b ts rest x =
    omega (arith, ap f x.is, push a (x.name, x.value), (least a x.name x.value).least ts rest x.spelled)

length_push : {A : Type 0} (xs : List A) (x : A) → length (xs ++ x ∷ []) ≡ length xs + 1
length_push xs x = simp length-append

-- what holds of each entry that is added holds of all
repeat_all : {V : Type 0} (P : Bytes × V → Type 0) (n : ℕ) (line : List (Bytes × V) → Bytes → V → Part) → ((es : List (Bytes × V)) (name : Bytes) (v : V) (ts rest : List Tok) → weight ts ≤ n → line es name v ts rest → P (name, v) × (weight rest ≤ n))
    → (a b : List (Bytes × V)) (ts rest : List Tok) → weight ts ≤ n → All P a → Repeat (Entry line) a b ts rest → All P b
repeat_all P n line each a b ts rest light all none = all
repeat_all P n line each a b ts rest light all (more {b = c} {between = k} x xs) =
    let p = each a x.name x.value ts k light x.spelled in
    repeat_all P n line each c b k rest p.1 (subst (λ es. All P es) (sym x.is) (All-push P a (x.name, x.value) all p.0)) xs

-- ---- names

semicolon_least : AtLeast 1 (mark (codes ";"))
semicolon_least = mark_least (codes ";") (omega arith)

new_more : (names : List Bytes) (t : Tok) (name : Bytes) → new_at names t ≡ Ok name → is_last t.kind ≡ false
new_more names t name e = elim (cases_Bool (is_name t)) [
  | inl is ↦ ap is_last (the_name t is)
  | inr other ↦ let h = rw other at e in absurd cc
]

new_least : (names : List Bytes) (name : Bytes) → AtLeast 1 (valued (new_at names) name)
new_least names name = byte_least (new_at names) name (λ t e. new_more names t name e)

test_least : (test : Tok → Bool) (ts rest : List Tok) → one test ts rest → weight rest ≤ weight ts
test_least test ts rest (t, is, e) = rw is (omega arith)

added_grows : Grows length Added
added_grows a b ts rest x = omega (arith, ap length x.is, length_push a x.name, (new_least a x.name).least ts rest x.spelled)

comma_grows : Grows length comma_name
comma_grows a b ts rest x = omega (arith, (mark_least (codes ",") (omega arith)).least ts x.between x.one, added_grows a b x.between rest x.two)

names_grow : (w : Bytes) → Grows length (name_line w)
names_grow w a b ts rest x =
    let l = x.two in
    omega (
      arith,
      (word_least w 0 (omega arith)).least ts x.between x.one,
      added_grows a l.first x.between l.spelled.between l.spelled.one,
      repeat_grows length comma_name comma_grows l.first b l.spelled.between l.spelled.two.between l.spelled.two.one,
      semicolon_least.least l.spelled.two.between rest l.spelled.two.two,
    )

-- ---- entries

range_least : (scale : ℕ) (low high : ℤ) → AtLeast 0 (range scale low high)
range_least scale low high =
    lighter (mark_least (codes ":") (omega arith) ▹ value_least (integer_at 18) scale ▹ word_least (codes "in") 0 (omega arith) ▹ signed_least _ (λ negative. value_least (bound_at negative scale None) low)
    ▹ mark_least (codes "..") (omega arith) ▹ signed_least _ (λ negative. value_least (bound_at negative scale (Some low)) high)) (omega arith)

-- assets
decimals_least : (v : Version) (k n : ℕ) → AtLeast 0 (decimals_part v k n)
decimals_least v k n = record { least = λ ts rest x. by_version v ts rest x }
  where
    by_version : (v : Version) (ts rest : List Tok) → decimals_part v k n ts rest → 0 + weight rest ≤ weight ts
    by_version One ts rest x = rw (x.1) (omega arith)
    by_version Two ts rest (inl x) = rw (x.1) (omega arith)
    by_version Two ts rest (inr x) = omega (arith, (mark_least (codes ":") (omega arith) ▹ value_least (integer_at k) n).least ts rest x)

asset_grows : (v : Version) (k : ℕ) → Grows length (Entry (asset_item v k))
asset_grows v k = entry_grows length (λ e. 1) (asset_item v k) length_push (λ es name n. lighter (new_least _ name ▹ decimals_least v k n) (omega arith))

further_grows : (v : Version) (k : ℕ) → Grows length (comma_asset v k)
further_grows v k a b ts rest x = omega (arith, (mark_least (codes ",") (omega arith)).least ts x.between x.one, asset_grows v k a b x.between rest x.two)

assets_grow : (v : Version) (k : ℕ) → Grows length (asset_line v k)
assets_grow v k a b ts rest x =
    let l = x.two in
    omega (
      arith,
      (word_least (codes "asset") 0 (omega arith)).least ts x.between x.one,
      asset_grows v k a l.first x.between l.spelled.between l.spelled.one,
      repeat_grows length (comma_asset v k) (further_grows v k) l.first b l.spelled.between l.spelled.two.between l.spelled.two.one,
      semicolon_least.least l.spelled.two.between rest l.spelled.two.two,
    )

label_least : (es : List (Bytes × Label)) (name : Bytes) (l : Label) → AtLeast 1 (label_line es name l)
label_least es name (label.Number scale low high) = lighter (word_least (codes "num") 1 (omega arith) ▹ new_least _ name ▹ range_least scale low high ▹ semicolon_least) (omega arith)
label_least es name label.Flag = lighter (word_least (codes "flag") 1 (omega arith) ▹ new_least _ name ▹ semicolon_least) (omega arith)

template_least : (es : List (Bytes × ℕ)) (name : Bytes) (days : ℕ) → AtLeast 1 (template_line es name days)
template_least es name days =
    lighter (word_least (codes "template") 1 (omega arith) ▹ new_least _ name ▹ mark_least (codes "=") (omega arith) ▹ value_least (integer_at 100_000) days ▹ semicolon_least) (omega arith)

shallow_least : (c : Contract) → AtLeast 0 (shallow c)
shallow_least c = record { least = λ ts rest x. rw (x.0) (omega arith) }

line_least : (n : ℕ) (s : DeclaredNames) (es : List (Bytes × Contract)) (name : Bytes) (c : Contract) → AtLeast n (contr s [] c) → AtLeast (n + 1) (contract_line s es name c)
line_least n s es name c least =
    lighter (word_least (codes "contract") 1 (omega arith) ▹ new_least _ name ▹ mark_least (codes "=") (omega arith) ▹ least ▹ shallow_least c ▹ semicolon_least) (omega arith)

pub named_least : (n : ℕ) (s : DeclaredNames) (before : List Bytes) (name : Bytes) (c : Contract) → AtLeast n (contr s [] c) → AtLeast n (named_contract s before name c)
named_least n s before name c least = lighter (new_least before name ▹ mark_least (codes "=") (omega arith) ▹ least ▹ shallow_least c ▹ semicolon_least) (omega arith)

-- ---- declarations and the whole text

origin_least : (o : Option ℤ) → AtLeast 0 (origin_line o)
origin_least None = record { least = λ ts rest x. rw (x) (omega arith) }
origin_least (Some day) = lighter (word_least (codes "origin") 0 (omega arith) ▹ value_least origin_at day ▹ semicolon_least) (omega arith)

start_least : (day : ℕ) → AtLeast 0 (start_line day)
start_least day = record { least = λ ts rest x. by_line ts rest x }
  where
    by_line : (ts rest : List Tok) → start_line day ts rest → 0 + weight rest ≤ weight ts
    by_line ts rest (inl x) = rw (x.1) (omega arith)
    by_line ts rest (inr x) = omega (arith, (word_least (codes "start") 0 (omega arith) ▹ value_least (integer_at 1_000_000) day ▹ semicolon_least).least ts rest x)

-- the bytes of declarations
pub record NamesWeigh (d : Declarations) (ts rest : List Tok) : Type 0 where
  pub parties : length d.parties + weight rest ≤ weight ts
  pub assets : length d.assets + weight rest ≤ weight ts
  pub labels : length d.labels + weight rest ≤ weight ts
  pub templates : length d.templates + weight rest ≤ weight ts

pub decls_weigh : (d : Declarations) (ts rest : List Tok) → decls d ts rest → NamesWeigh d ts rest
decls_weigh d ts rest x =
    let o = x.two.two.two in
    let first = (word_least (codes "amounts") 0 (omega arith)).least ts x.between x.one in
    let second = (value_least (integer_at 12) d.amounts).least x.between x.two.between x.two.one in
    let third = semicolon_least.least x.two.between x.two.two.between x.two.two.one in
    let origin = (origin_least d.origin).least x.two.two.between o.between o.one in
    let start = (start_least d.start).least o.between o.two.between o.two.one in
    let parties = repeat_grows length (name_line (codes "party")) (names_grow (codes "party")) [] d.parties o.two.between o.two.two.between o.two.two.one in
    let assets = repeat_grows length (asset_line (version_of d.version) d.amounts) (assets_grow (version_of d.version) d.amounts) [] d.assets o.two.two.between o.two.two.two.between o.two.two.two.one in
    let labels = repeat_grows length (Entry label_line) (entry_grows length (λ e. 1) label_line length_push label_least) [] d.labels o.two.two.two.between o.two.two.two.two.between o.two.two.two.two.one in
    let templates = repeat_grows length (Entry template_line) (entry_grows length (λ e. 1) template_line length_push template_least) [] d.templates o.two.two.two.two.between rest o.two.two.two.two.two in
    record { parties = omega arith; assets = omega arith; labels = omega arith; templates = omega arith }

-- the lines of contracts in a text, with the bytes before and behind
pub record ContractLines (bytes : List ℕ) (b : Book) : Type 0 where
  pub before : List Tok
  pub behind : List Tok
  pub spelled : Repeat (Entry (contract_line (declared_by b.declarations []))) [] b.contracts before behind
  light : weight before ≤ length bytes
  names : NamesFit bytes b.declarations

pub contract_lines : (bytes : List ℕ) (b : Book) → Text bytes b → ContractLines bytes b
contract_lines bytes b text =
    let x = text.spelled in
    let y = x.two.two.two in
    let first = (word_least (codes "portfolio") 0 (omega arith)).least (tokens bytes) x.between x.one in
    let second = test_least (is_the_version b.declarations.version) x.between x.two.between x.two.one in
    let third = semicolon_least.least x.two.between x.two.two.between x.two.two.one in
    let declared = decls_weigh b.declarations x.two.two.between y.between y.one in
    let all = weight_tokens bytes in
    record {
      before = y.between;
      behind = y.two.between;
      spelled = y.two.one;
      light = omega (arith, declared.parties);
      names = record { parties = omega (arith, declared.parties); assets = omega (arith, declared.assets); labels = omega (arith, declared.labels); templates = omega (arith, declared.templates) };
    }

pub names_fit : (bytes : List ℕ) (b : Book) → Text bytes b → NamesFit bytes b.declarations
names_fit bytes b text = (contract_lines bytes b text).names

pub contracts_fit : (bytes : List ℕ) (b : Book) → Text bytes b → length b.contracts ≤ length bytes
contracts_fit bytes b text =
    let s = declared_by b.declarations [] in
    let l = contract_lines bytes b text in
    omega (arith, l.light, repeat_grows length (Entry (contract_line s)) (entry_grows length (λ e. 1) (contract_line s) length_push (λ es name c. lighter (line_least (nodes_of_contract c) s es name c (contr_least s [] c)) (omega arith))) [] b.contracts l.before l.behind l.spelled)

abbrev all_nodes : List (Bytes × Contract) → ℕ
all_nodes es = sum_by (λ entry. nodes_of_contract entry.1) es

pub nodes_fit : (bytes : List ℕ) (b : Book) → Text bytes b → sum_by (λ entry. nodes_of_contract entry.1) b.contracts ≤ length bytes
nodes_fit bytes b text =
    let s = declared_by b.declarations [] in
    let l = contract_lines bytes b text in
    omega (
      arith,
      l.light,
      repeat_grows all_nodes (Entry (contract_line s)) (entry_grows all_nodes (λ e. nodes_of_contract e.1) (contract_line s) (λ es e. sum_by_push (λ entry. nodes_of_contract entry.1) es e)
          (λ es name c. lighter (line_least (nodes_of_contract c) s es name c (contr_least s [] c)) (omega arith))) [] b.contracts l.before l.behind l.spelled,
    )

pub payments_fit : (bytes : List ℕ) (b : Book) → Text bytes b → All (λ entry. 17 * payments_in entry.1 ≤ length bytes + 7) b.contracts
payments_fit bytes b text =
    let s = declared_by b.declarations [] in
    let l = contract_lines bytes b text in
    repeat_all (λ entry. 17 * payments_in entry.1 ≤ length bytes + 7) (length bytes) (contract_line s)
    (λ es name c ts rest light x. (omega (arith, (line_least (17 * payments_in c - 7) s es name c (payments_least s [] c)).least ts rest x), omega (arith, (line_least (17 * payments_in c - 7) s es name c (payments_least s [] c)).least ts rest x)))
    [] b.contracts l.before l.behind l.light (All-nil (λ entry. 17 * payments_in entry.1 ≤ length bytes + 7)) l.spelled

pub payments_bounded : (bytes : List ℕ) (b : Book) → Text bytes b → length bytes ≤ 16_777_216 → All (λ entry. payments_in entry.1 < 1_000_000) b.contracts
payments_bounded bytes b text short = λ k d within. omega (arith, payments_fit bytes b text k d within)
