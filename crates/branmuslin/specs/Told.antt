-- What a call's answer says to C: the number of the refusal, or 0; and what it leaves where room was lent for what it told.
use Rattle.std.specs.Prelude.{ℕ, Result, Ok, Err}
use Rattle.refusal.specs.Refusal.{number}
use Rattle.refusal.specs.declared.Refusal.{Refusal}

abbrev pub number_of : {A : Type 0} → Result A Refusal → ℕ
number_of (Ok value) = 0
number_of (Err refusal) = number refusal

abbrev pub left_of : {A : Type 0} → Result A Refusal → A → A
left_of (Ok value) old = value
left_of (Err refusal) old = old
