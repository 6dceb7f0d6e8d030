-- The bytes that the grammar of dkms.conf names.
use Rattle.std.specs.Prelude.{ℕ, Bool, ◌||◌, not, ◌==◌, if◌then◌else◌}
use Rattle.std.specs.Char.{is_ascii_alphabetic, is_ascii_alphanumeric}
use Rattle.kb_conf.specs.Signs.{tab, line_feed, space_sign, exclamation_mark, double_quote, hash_sign, dollar_sign, ampersand, apostrophe, open_parenthesis, close_parenthesis, asterisk, minus_sign, semicolon, less_sign, greater_sign, question_mark, at_sign, backslash, underscore, backquote, open_brace, vertical_bar}

-- a blank is a space or a tab
abbrev pub is_blank : ℕ → Bool
is_blank b = b == space_sign || b == tab

-- what a shell reads as an operator: ; & | < > ( )
abbrev pub is_operator : ℕ → Bool
is_operator b = b == semicolon || b == ampersand || b == vertical_bar || b == less_sign || b == greater_sign
    || b == open_parenthesis || b == close_parenthesis

-- what doesn't stand for itself inside double quotes, and what a backslash there gives: " $ \ `
abbrev pub is_active : ℕ → Bool
is_active b = b == double_quote || b == dollar_sign || b == backslash || b == backquote

-- what stands for itself in a value, inside double quotes or outside
abbrev pub stands_for_itself : Bool → ℕ → Bool
stands_for_itself quoted b =
    if quoted then not (is_active b)
    else not (is_active b || is_blank b || is_operator b || b == line_feed || b == apostrophe)

-- a name is a letter or _, and then letters, digits and _
abbrev pub starts_name : ℕ → Bool
starts_name b = is_ascii_alphabetic b || b == underscore

abbrev pub continues_name : ℕ → Bool
continues_name b = is_ascii_alphanumeric b || b == underscore

-- after a $: what a shell would read on from. A letter, a digit, _ or one of { ( @ * # ? ! - $
abbrev pub begins_expansion : ℕ → Bool
begins_expansion b = continues_name b || b == open_brace || b == open_parenthesis
    || b == at_sign || b == asterisk || b == hash_sign || b == question_mark || b == exclamation_mark || b == minus_sign || b == dollar_sign
