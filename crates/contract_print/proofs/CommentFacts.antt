-- Lines of comments before a text are a gap before its first token, and UTF-8.
use Rattle.std.proofs.Common.{◌≡◌, ◌≢◌, false, true, cond, not, List, [], ◌∷◌, ◌++◌, refl, sym, ap, subst, ◌∙◌, arith, append_assoc}
use Rattle.std.specs.Prelude.{◌==◌, Bool, drop}
use Rattle.std.specs.List.{AllByRecursion, flat_map}
use Rattle.std.specs.Str.{IsUtf8}
use Rattle.std.proofs.lemmas.Bool.Decides.{nat_tests}
use Rattle.std.proofs.lemmas.Grind.{flat_map-append}
use Rattle.std.proofs.lemmas.List.{append-nil}
use Rattle.std.proofs.lemmas.List.Elements.{All-append, All-cons, All-nil, recursion_from_All}
use Rattle.std.proofs.lemmas.Str.{IsUtf8-append, IsUtf8-from_ascii, IsUtf8-nil}
use Rattle.contract_grammar.specs.Tokens.{after_gap, extent_at, is_last, next_lexeme, token_at, tokens}
use Rattle.contract_grammar.specs.Words.{Bytes}
use Rattle.contract_grammar.proofs.TokenFacts.{tokens_next}
use Rattle.contract_grammar.specs.Statements.{portfolio}
use Rattle.contract_grammar.specs.Texts.{Text}
use Rattle.contract_print.specs.Comments.{IsCommentText, IsComments, comment_line}
use Rattle.contract_print.specs.Laws.{CommentsChangeNothing}
use Rattle.contract_print.proofs.ExprPieces.{ascii_of}

-- ---- tokens

-- a comment ends behind its line feed
past_comment : (text rest : Bytes) → AllByRecursion (λ b. b ≢ 10) text → after_gap true (text ++ 10 ∷ rest) ≡ after_gap false rest
past_comment [] rest all = refl
past_comment (b ∷ text) rest all =
    let other : (b == 10) ≡ false = grind (arith, nat_tests, all.0) in
    ap (λ (t : Bool). after_gap (not t) (text ++ 10 ∷ rest)) other ∙ past_comment text rest all.1

same_tokens : (a b : Bytes) → after_gap false a ≡ after_gap false b → tokens a ≡ tokens b
unfolding next_lexeme
same_tokens a b e =
    tokens_next a
    ∙ ap (λ (start : Bytes). token_at start ∷ cond (is_last (token_at start).kind) [] (tokens (drop (extent_at start).len start))) e
    ∙ sym (tokens_next b)

line_gone : (text rest : Bytes) → IsCommentText text → tokens (comment_line text ++ rest) ≡ tokens rest
line_gone text rest is =
    ap (λ (bytes : Bytes). tokens (35 ∷ bytes)) (append_assoc text (10 ∷ []) rest)
    ∙ same_tokens (35 ∷ text ++ 10 ∷ rest) rest (past_comment text rest (recursion_from_All (λ b. b ≢ 10) text is.one_line))

lines_gone : (texts : List Bytes) (rest : Bytes) → AllByRecursion IsCommentText texts → tokens (flat_map comment_line texts ++ rest) ≡ tokens rest
lines_gone [] rest all = refl
lines_gone (text ∷ texts) rest all =
    ap tokens (append_assoc (comment_line text) (flat_map comment_line texts) rest)
    ∙ line_gone text (flat_map comment_line texts ++ rest) all.0
    ∙ lines_gone texts rest all.1

-- ---- UTF-8

line_utf8 : (text : Bytes) → IsCommentText text → IsUtf8 (comment_line text)
line_utf8 text is =
    IsUtf8-append (35 ∷ []) (text ++ 10 ∷ []) (IsUtf8-from_ascii (35 ∷ []) (ascii_of (35 ∷ []) refl))
    (IsUtf8-append text (10 ∷ []) is.utf8 (IsUtf8-from_ascii (10 ∷ []) (ascii_of (10 ∷ []) refl)))

lines_utf8 : (texts : List Bytes) → AllByRecursion IsCommentText texts → IsUtf8 (flat_map comment_line texts)
lines_utf8 [] all = IsUtf8-nil
lines_utf8 (text ∷ texts) all = IsUtf8-append (comment_line text) (flat_map comment_line texts) (line_utf8 text all.0) (lines_utf8 texts all.1)

-- ---- comments before a text

pub comments_change_nothing : CommentsChangeNothing
comments_change_nothing before bytes b is text =
    let each = recursion_from_All IsCommentText is.texts is.each in
    let lines = flat_map comment_line is.texts in
    subst (λ (front : Bytes). Text (front ++ bytes) b) (sym is.is) (record {
      utf8 = IsUtf8-append lines bytes (lines_utf8 is.texts each) text.utf8;
      spelled = subst (λ ts. portfolio b ts []) (sym (lines_gone is.texts bytes each)) text.spelled;
    })

-- ---- comments one after another

pub no_comments : IsComments []
no_comments = record { texts = []; each = All-nil IsCommentText; is = refl }

pub one_comment : (text : Bytes) → IsCommentText text → IsComments (comment_line text)
one_comment text is = record {
  texts = text ∷ [];
  each = All-cons IsCommentText text [] is (All-nil IsCommentText);
  is = sym (append-nil (comment_line text));
}

pub comments_append : (a b : Bytes) → IsComments a → IsComments b → IsComments (a ++ b)
comments_append a b x y = record {
  texts = x.texts ++ y.texts;
  each = All-append IsCommentText x.texts y.texts x.each y.each;
  is = ap (λ (front : Bytes). front ++ b) x.is ∙ ap (λ (back : Bytes). flat_map comment_line x.texts ++ back) y.is ∙ sym (flat_map-append comment_line x.texts y.texts);
}
