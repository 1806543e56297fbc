-- The number of a rule.
use Rattle.std.specs.Prelude.{◌≡◌, ℕ, ◌+◌, ◌<◌, ◌≤◌, cond, Ok, Err, Result}
use Rattle.joining.specs.declared.rule.Rule.{Rule}
use Rattle.joining.specs.declared.rule.NoSuchRule.{NoSuchRule}

abbrev pub number_of : Rule → ℕ
number_of rule = cond rule.first 1 0 + cond rule.second 2 0 + cond rule.both 4 0

-- the rule with this number; there is none above 7
abbrev pub IsRule : ℕ → Result Rule NoSuchRule → Type 0
IsRule n (Ok rule) = (n ≤ 7) × (number_of rule ≡ n)
IsRule n (Err e) = 7 < n
