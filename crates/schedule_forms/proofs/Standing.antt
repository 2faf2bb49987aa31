-- Declarations stand before whatever follows them: what spells them does so before any other tokens. So two readings of
-- them up to one token are one.
use Rattle.std.proofs.Common.{◌≡◌, ℕ, ℤ, Bool, true, false, Option, Some, None, Result, List, [], ◌∷◌, ◌++◌, append_assoc, refl, ap, sym, subst, ◌∙◌, inl, inr}
use Rattle.std.specs.Prelude.{codes}
use Rattle.std.proofs.lemmas.List.{append_cancel_right}
use Rattle.term_model.specs.Declarations.{Declarations}
use Rattle.term_model.specs.declared.label.Label.{Label}
use Rattle.term_model.specs.declared.label.Label.TheVariants as label
use Rattle.contract_grammar.specs.Tokens.{Tok}
use Rattle.contract_grammar.specs.Words.{Bytes, is_the_mark, is_the_word}
use Rattle.contract_grammar.specs.Versions.{Version, One, Two, version_of}
use Rattle.contract_grammar.specs.Judgements.{bound_at, integer_at, new_at, origin_at}
use Rattle.contract_grammar.specs.Spelling.{Part, Signed, ◌⨟◌, mark, nothing, one, sign, valued, word}
use Rattle.contract_grammar.specs.Statements.{Added, AssetList, Entry, NameList, Repeat, asset_item, asset_line, comma_asset, comma_name, decimals_part, decls, label_line, name_line, none, more, origin_line, range, start_line, template_line}
use Rattle.contract_grammar.specs.declared.token.LexemeKind.TheVariants.{End}
use Rattle.contract_grammar.specs.declared.faults.TextKind.{TextKind}
use Rattle.contract_grammar.proofs.Parts.{followed_by}
use Rattle.contract_parse.proofs.LinesTaken.{Heads, behind_templates}
use Rattle.contract_parse.proofs.OneText.{one_decls}

-- what a part takes, which it takes before any tokens
pub record Stands (part : Part) (ts rest : List Tok) : Type 0 where
  pub before : List Tok
  pub are : ts ≡ before ++ rest
  pub anywhere : (r : List Tok) → part (before ++ r) r

abbrev pub AllStand : Part → Type 0
AllStand part = (ts rest : List Tok) → part ts rest → Stands part ts rest

pub one_stands : (test : Tok → Bool) → AllStand (one test)
one_stands test ts rest (t, is, e) = record { before = t ∷ []; are = is; anywhere = λ r. (t, refl, e) }

value_stands : {X : Type 0} (judge : Tok → Result X TextKind) (x : X) → AllStand (valued judge x)
value_stands judge x ts rest (t, is, e) = record { before = t ∷ []; are = is; anywhere = λ r. (t, refl, e) }

nothing_stands : AllStand nothing
nothing_stands ts rest same = record { before = []; are = same; anywhere = λ r. refl }

joined : (p q whole : Part) (ts between rest : List Tok) → ((k l r : List Tok) → p k l → q l r → whole k r) → Stands p ts between → Stands q between rest → Stands whole ts rest
joined p q whole ts between rest join a b =
    record {
      before = a.before ++ b.before;
      are = a.are ∙ ap (λ (l : List Tok). a.before ++ l) b.are ∙ sym (append_assoc a.before b.before rest);
      anywhere = λ r. subst (λ (l : List Tok). whole l r) (sym (append_assoc a.before b.before r)) (join (a.before ++ (b.before ++ r)) (b.before ++ r) r (a.anywhere (b.before ++ r)) (b.anywhere r));
    }

pub then_stands : (p q : Part) → AllStand p → AllStand q → AllStand (p ⨟ q)
then_stands p q first next ts rest x = joined p q (p ⨟ q) ts x.between rest (λ k l r y z. followed_by l y z) (first ts x.between x.one) (next x.between rest x.two)

-- a part that holds another
holding : (p q : Part) (ts rest : List Tok) → ((k r : List Tok) → p k r → q k r) → Stands p ts rest → Stands q ts rest
holding p q ts rest hold x = record { before = x.before; are = x.are; anywhere = λ r. hold (x.before ++ r) r (x.anywhere r) }

sign_stands : (negative : Bool) → AllStand (sign negative)
sign_stands true = one_stands (is_the_mark (codes "-"))
sign_stands false = nothing_stands

signed_stands : {X : Type 0} (judge : Bool → Tok → Result X TextKind) (x : X) → AllStand (Signed (λ negative. valued (judge negative) x))
signed_stands judge x ts rest y =
    holding (sign y.negative ⨟ valued (judge y.negative) x) (Signed (λ negative. valued (judge negative) x)) ts rest (λ k r z. record { negative = y.negative; spelled = z })
    (then_stands (sign y.negative) (valued (judge y.negative) x) (sign_stands y.negative) (value_stands (judge y.negative) x) ts rest y.spelled)

repeat_stands : {A : Type 0} (step : A → A → Part) → ((a b : A) → AllStand (step a b)) → (a b : A) → AllStand (Repeat step a b)
repeat_stands step each a b ts rest none = record { before = []; are = refl; anywhere = λ r. none }
repeat_stands step each a b ts rest (more {b = c} {between = k} x xs) =
    joined (step a c) (Repeat step c b) (Repeat step a b) ts k rest (λ l m r y z. more y z) (each a c ts k x) (repeat_stands step each c b k rest xs)

added_stands : (before after : List Bytes) → AllStand (Added before after)
added_stands before after ts rest x =
    holding (valued (new_at before) x.name) (Added before after) ts rest (λ k r y. record { name = x.name; is = x.is; spelled = y }) (value_stands (new_at before) x.name ts rest x.spelled)

names_stand : (before after : List Bytes) → AllStand (NameList before after)
names_stand before after ts rest x =
    holding (Added before x.first ⨟ Repeat comma_name x.first after ⨟ mark (codes ";")) (NameList before after) ts rest (λ k r y. record { first = x.first; spelled = y })
    (then_stands _ _ (added_stands before x.first) (then_stands _ _ (repeat_stands comma_name (λ a b. then_stands _ _ (one_stands (is_the_mark (codes ","))) (added_stands a b)) x.first after) (one_stands (is_the_mark (codes ";")))) ts rest x.spelled)

name_lines_stand : (w : Bytes) (names : List Bytes) → AllStand (Repeat (name_line w) [] names)
name_lines_stand w names = repeat_stands (name_line w) (λ a b. then_stands _ _ (one_stands (is_the_word w)) (names_stand a b)) [] names

entry_stands : {V : Type 0} (line : List (Bytes × V) → Bytes → V → Part) → ((es : List (Bytes × V)) (name : Bytes) (v : V) → AllStand (line es name v)) → (a b : List (Bytes × V)) → AllStand (Entry line a b)
entry_stands line each a b ts rest x =
    holding (line a x.name x.value) (Entry line a b) ts rest (λ k r y. record { name = x.name; value = x.value; is = x.is; spelled = y }) (each a x.name x.value ts rest x.spelled)

entries_stand : {V : Type 0} (line : List (Bytes × V) → Bytes → V → Part) → ((es : List (Bytes × V)) (name : Bytes) (v : V) → AllStand (line es name v)) → (es : List (Bytes × V)) → AllStand (Repeat (Entry line) [] es)
entries_stand line each es = repeat_stands (Entry line) (entry_stands line each) [] es

decimals_stand : (v : Version) (k n : ℕ) → AllStand (decimals_part v k n)
decimals_stand One k n ts rest x = record { before = []; are = x.1; anywhere = λ r. (x.0, refl) }
decimals_stand Two k n ts rest (inl x) = record { before = []; are = x.1; anywhere = λ r. inl (x.0, refl) }
decimals_stand Two k n ts rest (inr x) =
    holding (mark (codes ":") ⨟ valued (integer_at k) n) (decimals_part Two k n) ts rest (λ l r y. inr y)
    (then_stands _ _ (one_stands (is_the_mark (codes ":"))) (value_stands (integer_at k) n) ts rest x)

asset_stands : (v : Version) (k : ℕ) (a b : List (Bytes × ℕ)) → AllStand (Entry (asset_item v k) a b)
asset_stands v k = entry_stands (asset_item v k) (λ es name n. then_stands _ _ (value_stands (new_at _) name) (decimals_stand v k n))

assets_stand : (v : Version) (k : ℕ) (before after : List (Bytes × ℕ)) → AllStand (AssetList v k before after)
assets_stand v k before after ts rest x =
    holding (Entry (asset_item v k) before x.first ⨟ Repeat (comma_asset v k) x.first after ⨟ mark (codes ";")) (AssetList v k before after) ts rest (λ l r y. record { first = x.first; spelled = y })
    (then_stands _ _ (asset_stands v k before x.first)
    (then_stands _ _ (repeat_stands (comma_asset v k) (λ a b. then_stands _ _ (one_stands (is_the_mark (codes ","))) (asset_stands v k a b)) x.first after) (one_stands (is_the_mark (codes ";")))) ts rest x.spelled)

asset_lines_stand : (v : Version) (k : ℕ) (assets : List (Bytes × ℕ)) → AllStand (Repeat (asset_line v k) [] assets)
asset_lines_stand v k assets = repeat_stands (asset_line v k) (λ a b. then_stands _ _ (one_stands (is_the_word (codes "asset"))) (assets_stand v k a b)) [] assets

range_stands : (scale : ℕ) (low high : ℤ) → AllStand (range scale low high)
range_stands scale low high =
    then_stands _ _ (one_stands (is_the_mark (codes ":")))
    (then_stands _ _ (value_stands (integer_at 18) scale)
    (then_stands _ _ (one_stands (is_the_word (codes "in")))
    (then_stands _ _ (signed_stands (λ negative. bound_at negative scale None) low)
    (then_stands _ _ (one_stands (is_the_mark (codes ".."))) (signed_stands (λ negative. bound_at negative scale (Some low)) high)))))

label_stands : (es : List (Bytes × Label)) (name : Bytes) (l : Label) → AllStand (label_line es name l)
label_stands es name (label.Number scale low high) =
    then_stands _ _ (one_stands (is_the_word (codes "num"))) (then_stands _ _ (value_stands (new_at _) name) (then_stands _ _ (range_stands scale low high) (one_stands (is_the_mark (codes ";")))))
label_stands es name label.Flag =
    then_stands _ _ (one_stands (is_the_word (codes "flag"))) (then_stands _ _ (value_stands (new_at _) name) (one_stands (is_the_mark (codes ";"))))

template_stands : (es : List (Bytes × ℕ)) (name : Bytes) (days : ℕ) → AllStand (template_line es name days)
template_stands es name days =
    then_stands _ _ (one_stands (is_the_word (codes "template")))
    (then_stands _ _ (value_stands (new_at _) name)
    (then_stands _ _ (one_stands (is_the_mark (codes "="))) (then_stands _ _ (value_stands (integer_at 100_000) days) (one_stands (is_the_mark (codes ";"))))))

origin_stands : (o : Option ℤ) → AllStand (origin_line o)
origin_stands None = nothing_stands
origin_stands (Some day) = then_stands _ _ (one_stands (is_the_word (codes "origin"))) (then_stands _ _ (value_stands origin_at day) (one_stands (is_the_mark (codes ";"))))

start_stands : (day : ℕ) → AllStand (start_line day)
start_stands day ts rest (inl x) = record { before = []; are = x.1; anywhere = λ r. inl (x.0, refl) }
start_stands day ts rest (inr x) =
    holding (word (codes "start") ⨟ valued (integer_at 1_000_000) day ⨟ mark (codes ";")) (start_line day) ts rest (λ k r y. inr y)
    (then_stands _ _ (one_stands (is_the_word (codes "start"))) (then_stands _ _ (value_stands (integer_at 1_000_000) day) (one_stands (is_the_mark (codes ";")))) ts rest x)

pub decls_stand : (d : Declarations) → AllStand (decls d)
decls_stand d =
    then_stands _ _ (one_stands (is_the_word (codes "amounts")))
    (then_stands _ _ (value_stands (integer_at 12) d.amounts)
    (then_stands _ _ (one_stands (is_the_mark (codes ";")))
    (then_stands _ _ (origin_stands d.origin)
    (then_stands _ _ (start_stands d.start)
    (then_stands _ _ (name_lines_stand (codes "party") d.parties)
    (then_stands _ _ (asset_lines_stand (version_of d.version) d.amounts d.assets)
    (then_stands _ _ (entries_stand label_line label_stands d.labels) (entries_stand template_line template_stands d.templates))))))))

-- the end of a text
abbrev the_end : List Tok
the_end = record { kind = End; text = []; left = 0 } ∷ []

-- two readings of declarations up to one token are one
pub one_decls_to : (d e : Declarations) (ts m : List Tok) → d.version ≡ e.version → decls d ts m → decls e ts m → d ≡ e
one_decls_to d e ts m version x y =
    let a = decls_stand d ts m x in
    let b = decls_stand e ts m y in
    let same : a.before ≡ b.before = append_cancel_right a.before b.before m (sym a.are ∙ b.are) in
    let other = subst (λ (l : List Tok). decls e (l ++ the_end) the_end) (sym same) (b.anywhere the_end) in
    let heads : Heads behind_templates the_end = (record { kind = End; text = []; left = 0 }, [], refl, refl) in
    (one_decls d e version the_end the_end heads heads (a.before ++ the_end) (a.anywhere the_end) other).0
