-- The functions of C, one scope after another.
use Rattle.std.proofs.Common.{◌≡◌, ◌∙◌, ℕ, zero, suc, ◌+◌, ◌-◌, ◌<◌, ◌≤◌, ◌++◌, List, [], length, refl, sym, ap, arith, append_assoc, append-nil}
use Rattle.std.specs.Option.{option_to_list}
use Rattle.debug_records.specs.Info.{Info}
use Rattle.source_map.specs.Functions.{FunctionView, function_at, functions_from, functions_of}

-- What was made, and what is left from a number on, are all functions.
pub record Left (info : Info) (made : List FunctionView) (number : ℕ) : Type 0 where
  pub all : made ++ functions_from info number (length info.scopes - number) ≡ functions_of info

whole : (n : ℕ) → n - 0 ≡ n
whole n = omega arith

pub none_made : (info : Info) (made : List FunctionView) → made ≡ [] → Left info made 0
none_made info made e = record {
  all = ap (λ (m : List FunctionView). m ++ functions_from info 0 (length info.scopes - 0)) e
      ∙ ap (functions_from info 0) (whole (length info.scopes));
}

one_function : (info : Info) (number left count : ℕ) → left ≡ suc count
    → functions_from info number left ≡ option_to_list (function_at info number) ++ functions_from info (number + 1) count
unfolding functions_from
one_function info number left count e = ap (functions_from info number) e

pub function_made : (info : Info) (made new : List FunctionView) (number : ℕ) → number < length info.scopes
    → new ≡ made ++ option_to_list (function_at info number) → Left info made number → Left info new (number + 1)
function_made info made new number h said l =
    let here = option_to_list (function_at info number) in
    let rest = functions_from info (number + 1) (length info.scopes - (number + 1)) in
    record {
      all = ap (λ (m : List FunctionView). m ++ rest) said ∙ (append_assoc made here rest
          ∙ (sym (ap (λ (fs : List FunctionView). made ++ fs) (one_function info number (length info.scopes - number)
          (length info.scopes - (number + 1)) (omega (arith, h)))) ∙ l.all));
    }

none_left : (info : Info) (made whole : List FunctionView) (number count : ℕ) → count ≡ 0 → made ++ functions_from info number count ≡ whole → made ≡ whole
unfolding functions_from
none_left info made whole number count none e =
    sym (append-nil made) ∙ (sym (ap (λ (n : ℕ). made ++ functions_from info number n) none) ∙ e)

pub all_functions : (info : Info) (made : List FunctionView) (number : ℕ) → number ≡ length info.scopes → Left info made number → made ≡ functions_of info
all_functions info made number e l = none_left info made (functions_of info) number (length info.scopes - number) (omega (arith, e)) l.all
