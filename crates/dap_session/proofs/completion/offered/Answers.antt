use Rattle.std.proofs.Common.{◌∙◌, ◌+◌, ◌-◌, [], List, ap, drop, if◌then◌else◌, length, map, subst, sym, take}
use Rattle.dap_messages.specs.SeenAnswers.{SeenItem}
use Rattle.dap_session.proofs.Begun.{all_ascii, not_ascii}
use Rattle.std.specs.List.{flat_map, list_all}
use Rattle.dap_session.specs.Completions.{before_typed, begun_behind, column_behind, names_begun, typed_in, word_begun, words_begun}
use Rattle.dap_messages.specs.ItemLists.{HasItems}
use Rattle.model.specs.Token.{is_blank}
use Rattle.source_map.specs.Names.{named}
use Rattle.dap_session.proofs.completion.offered.Goals as goal

pub returns-then-are_blanks : goal.returns-then-are_blanks
returns-then-are_blanks c =
    let front = c.args.front.now in
    let counting = c.args.counting in
    let names = map named c.args.names.now in
    let is = sym (all_ascii front c.if-is_ascii.ensures.cases) in
    let before = c.split_at.ensures.front ∙ ap (λ n. take (length front - n) front) c.typed_bytes.ensures.counted in
    let word = c.split_at.ensures.back ∙ ap (λ n. drop (length front - n) front) c.typed_bytes.ensures.counted in
    let blank = sym c.if-are_blanks.true ∙ c.are_blanks.ensures ∙ ap (list_all is_blank) before in
    let words = words_begun (column_behind counting (before_typed front)) (typed_in front) in
    let others = names_begun (column_behind counting (before_typed front)) (typed_in front) names in
    subst (λ (ds : List SeenItem). HasItems ds c.words_begun.result)
    ((λ i. flat_map (word_begun (length (before i) + c.first_column.ensures i) (word i)) (c.all_words.ensures i))
    ∙ (λ i. if blank i then words else others)
    ∙ (λ i. if is i then begun_behind counting names (before_typed front) (typed_in front) else [])) c.words_begun.ensures

pub returns-else-are_blanks : goal.returns-else-are_blanks
returns-else-are_blanks c =
    let front = c.args.front.now in
    let counting = c.args.counting in
    let names = map named c.args.names.now in
    let is = sym (all_ascii front c.if-is_ascii.ensures.cases) in
    let before = c.split_at.ensures.front ∙ ap (λ n. take (length front - n) front) c.typed_bytes.ensures.counted in
    let word = c.split_at.ensures.back ∙ ap (λ n. drop (length front - n) front) c.typed_bytes.ensures.counted in
    let blank = sym c.if-are_blanks.false ∙ c.are_blanks.ensures ∙ ap (list_all is_blank) before in
    let words = words_begun (column_behind counting (before_typed front)) (typed_in front) in
    let others = names_begun (column_behind counting (before_typed front)) (typed_in front) names in
    subst (λ (ds : List SeenItem). HasItems ds c.names_begun.result)
    ((λ i. names_begun (length (before i) + c.first_column.ensures i) (word i) names)
    ∙ (λ i. if blank i then words else others)
    ∙ (λ i. if is i then begun_behind counting names (before_typed front) (typed_in front) else [])) c.names_begun.ensures

pub returns-else-is_ascii : goal.returns-else-is_ascii
returns-else-is_ascii c =
    let front = c.args.front.now in
    let is = sym (not_ascii front c.if-is_ascii.ensures.cases) in
    subst (λ (ds : List SeenItem). HasItems ds c.new.result)
    (λ i. if is i then begun_behind c.args.counting (map named c.args.names.now) (before_typed front) (typed_in front) else []) c.new.ensures
