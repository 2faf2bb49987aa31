-- What `positions` prints are positions that add up to 0, and what `settle` prints settles them.
use Rattle.std.proofs.Common.{◌≡◌, ◌∙◌, ◌≤◌, ◌-◌, ◌+◌, ◌⊎◌, inl, inr, ℕ, ℤ, Bool, true, false, cond, List, [], ◌∷◌, length, arith, refl, subst, sym}
use Rattle.std.specs.List.{Contains, count_by}
use Rattle.std.proofs.lemmas.Bool.{eq-eqb}
use Rattle.std.proofs.lemmas.Bool.Decides.{Decides-int_eq}
use Rattle.std.proofs.lemmas.List.Elements.{All-weaker}
use Rattle.std.proofs.lemmas.List.Sums.{sum_by-cons}
use Rattle.term_model.specs.Books.{Book}
use Rattle.term_model.specs.Declarations.{Declarations}
use Rattle.contract_grammar.specs.Texts.{Text}
use Rattle.contract_parse.proofs.OneText.{one_text}
use Rattle.flow_eval.specs.declared.flow_table.FlowRow.{FlowRow}
use Rattle.flow_eval.specs.declared.flow_table.FlowTable.{FlowTable}
use Rattle.exposure.specs.declared.accounts.PositionRow.{PositionRow}
use Rattle.exposure.specs.Positions.{ArePositions, IsPosition, account_of, is_on, position, position_in, row_for}
use Rattle.exposure.specs.Settlement.{HoldsAllIn, Settles, account}
use Rattle.exposure.proofs.RenamingFacts.{by_member, member, member_cases}
use Rattle.command_words.specs.Commands.{NettingAsked, Positions, Settle, files_of}
use Rattle.command_courses.specs.Course.{Tells}
use Rattle.command_courses.specs.Inputs.{table_if_named}
use Rattle.command_courses.specs.Inputs.{file_at}
use Rattle.flow_commands.specs.NettingCourse.{netting_on}
use Rattle.flow_commands.specs.NettingPromise.{TellsPositions, TellsSettlement}
use Rattle.command_courses.specs.declared.status.Status.TheVariants as status
use Rattle.flow_commands.proofs.NettingAreOne.{LeaveSame, same_positions, same_tables}
use Rattle.contract_cli.specs.NettingLaws.{AreFewer, AreTablesOfAll, BringToPositions}
use Rattle.contract_cli.specs.NettingLaws.{PrintedPositionsBalance, PrintedSettlementsSettle, SettlementsSettlePositions, stands_on}
use Rattle.contract_cli.proofs.LawFacts.{done_has_told}
use Rattle.contract_cli.proofs.RunSound.{whole_read}

-- ---- a run

-- the tables of which a text tells
tables_told : (TellsOf : Declarations → List FlowTable → List ℕ → Type 0) (asked : NettingAsked) (inputs : List (List ℕ)) (b : Book) (text : List ℕ)
    → Tells (netting_on TellsOf asked b (table_if_named asked.fixings inputs)) status.Done text
    → (tables : List FlowTable) × AreTablesOfAll asked inputs b tables × TellsOf b.declarations tables text
tables_told TellsOf asked inputs b text (a, known, (last, is_last, (c, accepted, (fixings, are, (e, fixed, (done, told)))))) =
    (told.tables, record { last = last; is_last = is_last; accepted = accepted; fixings = fixings; are_fixings = are; are_tables = told.are_tables }, told.told)

pub printed_positions_balance : PrintedPositionsBalance
printed_positions_balance words edge asked named done =
    let h = done_has_told words edge (Positions asked) named done in
    let k = tables_told TellsPositions asked h.inputs h.told.0 h.text h.told.2 in
    record {
      of = record {
        book = h.told.0;
        inputs = h.inputs;
        text = h.text;
        ran = record { read = h.read; spelled = h.told.1; written = h.line };
        tables = k.0;
        known = k.1;
      };
      rows = k.2.rows;
      lines = k.2.lines;
      positions = k.2.positions;
      balanced = k.2.positions.balanced;
    }

-- ---- payments and positions of the same tables

module _ (tables : List FlowTable) (rows : List PositionRow) (are : ArePositions tables rows) (payments : List FlowRow) (settles : Settles tables payments) where
  bring_to_positions : BringToPositions payments rows
  bring_to_positions = record {
    each = All-weaker (IsPosition tables) (λ row. row.amount ≡ position_in payments (account_of row)) (λ row is. is.exact ∙ sym (settles.same (account_of row))) rows are.right;
    whole = λ x some.
        subst (λ (amount : ℤ). Contains rows (row_for x amount)) (sym (settles.same x)) (are.whole x (λ none. some (settles.same x ∙ none)));
  }

-- the parties that have a position on a day in an asset
abbrev parties : ℤ → ℕ → List PositionRow → List ℕ
parties n a [] = []
parties n a (row ∷ rows) = cond (stands_on n a row) (row.party ∷ parties n a rows) (parties n a rows)

one_more : (t : Bool) (p m : ℕ) (ps : List ℕ) → length ps ≡ m → length (cond t (p ∷ ps) ps) ≡ cond t 1 0 + m
one_more true p m ps e = omega arith
one_more false p m ps e = omega arith

as_many : (n : ℤ) (a : ℕ) (rows : List PositionRow) → length (parties n a rows) ≡ count_by (stands_on n a) rows
as_many n a [] = refl
as_many n a (row ∷ rows) =
    one_more (stands_on n a row) row.party _ (parties n a rows) (as_many n a rows) ∙ sym (sum_by-cons (λ (r : PositionRow). cond (stands_on n a r) 1 0) row rows)

kept : (t : Bool) (p q : ℕ) (ps : List ℕ) → ((p ≡ q) × (t ≡ true)) ⊎ Contains ps q → Contains (cond t (p ∷ ps) ps) q
kept true p q ps (inl h) = member q p ps (inl (sym h.0))
kept true p q ps (inr h) = member q p ps (inr h)
kept false p q ps (inl h) = absurd (let no : false ≡ true = h.1 in cc)
kept false p q ps (inr h) = h

has_party : (n : ℤ) (a : ℕ) (rows : List PositionRow) (x : PositionRow) → stands_on n a x ≡ true → Contains rows x → Contains (parties n a rows) x.party
has_party n a [] x stands h = absurd (by_member x h)
has_party n a (row ∷ rows) x stands h =
    kept (stands_on n a row) row.party x.party (parties n a rows)
    (elim (member_cases x row rows h) [
      | inl same ↦ inl (subst (λ (r : PositionRow). (r.party ≡ x.party) × (stands_on n a r ≡ true)) (sym same) (refl, stands))
      | inr later ↦ inr (has_party n a rows x stands later)
    ])

stands_itself : (n : ℤ) (a p : ℕ) (amount : ℤ) → stands_on n a (row_for (account n a p) amount) ≡ true
stands_itself n a p amount = rw ((Decides-int_eq n n).1 refl, eq-eqb a a refl) refl

holds_all : (tables : List FlowTable) (rows : List PositionRow) (n : ℤ) (a : ℕ) → ArePositions tables rows → HoldsAllIn tables n a (parties n a rows)
holds_all tables rows n a are p some =
    let x = account n a p in
    has_party n a rows (row_for x (position tables x)) (stands_itself n a p (position tables x)) (are.whole x some)

fewer_payments : (tables : List FlowTable) (rows : List PositionRow) (payments : List FlowRow) → ArePositions tables rows → Settles tables payments → AreFewer payments rows
fewer_payments tables rows payments are settles n a =
    subst (λ (m : ℕ). count_by (is_on n a) payments ≤ m - 1) (as_many n a rows) (settles.few n a (parties n a rows) (holds_all tables rows n a are))

-- ---- a run of `settle`

pub printed_settlements_settle : PrintedSettlementsSettle
printed_settlements_settle words edge asked named done =
    let h = done_has_told words edge (Settle asked) named done in
    let k = tables_told TellsSettlement asked h.inputs h.told.0 h.text h.told.2 in
    record {
      of = record {
        book = h.told.0;
        inputs = h.inputs;
        text = h.text;
        ran = record { read = h.read; spelled = h.told.1; written = h.line };
        tables = k.0;
        known = k.1;
      };
      rows = k.2.rows;
      lines = k.2.lines;
      settles = k.2.settles;
      in_turn = k.2.in_turn;
      bring = λ positions are. bring_to_positions k.0 positions are k.2.rows k.2.settles;
      fewer = λ positions are. fewer_payments k.0 positions k.2.rows are k.2.settles;
    }

-- ---- two runs

tables_same : (asked : NettingAsked) (inputs : List (List ℕ)) (b : Book) (tables more : List FlowTable)
    → AreTablesOfAll asked inputs b tables → AreTablesOfAll asked inputs b more → LeaveSame tables more
tables_same asked inputs b tables more h k =
    same_tables b asked.until (table_if_named asked.fixings inputs) h.last k.last h.fixings k.fixings tables more
    h.is_last k.is_last h.are_fixings k.are_fixings h.are_tables k.are_tables

pub settlements_settle_positions : SettlementsSettlePositions
settlements_settle_positions words more first second asked inputs one done two ended =
    let h = printed_positions_balance words first asked one.named done in
    let k = printed_settlements_settle more second asked two.named ended in
    let here = whole_read first.files (files_of (Positions asked)) inputs h.of.inputs one.whole h.of.ran.read in
    let there = whole_read second.files (files_of (Settle asked)) inputs k.of.inputs two.whole k.of.ran.read in
    let same_inputs = there ∙ sym here in
    let spelled = subst (λ (xs : List (List ℕ)). Text (file_at xs 0) k.of.book) same_inputs k.of.ran.spelled in
    let same_book = one_text (file_at h.of.inputs 0) k.of.book h.of.book spelled h.of.ran.spelled in
    let known = subst (λ (b : Book). AreTablesOfAll asked h.of.inputs b k.of.tables) same_book (subst (λ (xs : List (List ℕ)). AreTablesOfAll asked xs k.of.book k.of.tables) same_inputs k.of.known) in
    let are = same_positions h.of.tables k.of.tables h.rows (tables_same asked h.of.inputs h.of.book h.of.tables k.of.tables h.of.known known) h.positions in
    record {
      netted = h;
      settled = k;
      bring = k.bring h.rows are;
      fewer = k.fewer h.rows are;
    }
