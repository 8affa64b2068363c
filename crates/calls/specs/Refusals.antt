-- What the calls that are given words and buffers are refused for, over a grammar of n symbols that is not refused itself.
--
-- first_of os            the first that is there
-- when b f               f, if b
-- too_long i w           13: the word number i has more than 8 symbols
-- stray_from k n w       the first place of w, counted on from k, with a symbol not below n
-- strays i n w           14: the word number i names such a symbol
-- compare_fault n x y k  what the comparison of x and y with a buffer of k bytes is refused for
-- run_fault n w s        what the run of s from w is refused for
-- copy_fault k           what a copy to a buffer of k bytes is refused for
--
-- unless o               refused for the fault in o, if there is one
-- answered o r           the answer r, unless it is refused for the fault in o
--
-- Assumes nothing.
use Rattle.std.specs.Prelude.{ℕ, suc, Bool, List, [], ◌∷◌, length, Some, None, Option, if◌then◌else◌, nat_lt, Result, Ok, Err}
use Rattle.std.specs.Option.{option_map}
use Rattle.grammar.specs.Meaning.{Word, Input}
use Rattle.calls.specs.declared.fault.CallFault.{CallFault}
use Rattle.calls.specs.declared.fault.CallFault.TheVariants.{LongWord, StraySymbol, ShortBuffer, LongInput, ShortCopy}

abbrev pub first_of : List (Option CallFault) → Option CallFault
first_of [] = None
first_of (None ∷ os) = first_of os
first_of (Some f ∷ os) = Some f

abbrev pub when : Bool → CallFault → Option CallFault
when b f = if b then Some f else None

abbrev pub too_long : ℕ → Word → Option CallFault
too_long i w = when (nat_lt 8 (length w)) (LongWord i (length w))

abbrev pub stray_from : ℕ → ℕ → Word → Option ℕ
stray_from k n [] = None
stray_from k n (A ∷ w) = if nat_lt A n then stray_from (suc k) n w else Some k

abbrev pub strays : ℕ → ℕ → Word → Option CallFault
strays i n w = option_map (λ k. StraySymbol i k) (stray_from 0 n w)

abbrev pub compare_fault : ℕ → Word → Word → ℕ → Option CallFault
compare_fault n x y k = first_of (too_long 1 x ∷ too_long 2 y ∷ strays 1 n x ∷ strays 2 n y ∷ when (nat_lt k 16384) (ShortBuffer k) ∷ [])

abbrev pub run_fault : ℕ → Word → Input → Option CallFault
run_fault n w s = first_of (too_long 1 w ∷ strays 1 n w ∷ when (nat_lt 16384 (length s)) (LongInput (length s)) ∷ [])

abbrev pub copy_fault : ℕ → Option CallFault
copy_fault k = when (nat_lt k 2047) (ShortCopy k)

abbrev pub answered : {X : Type 0} → Option CallFault → X → Result X CallFault
answered None r = Ok r
answered (Some f) r = Err f

abbrev pub unless : Option CallFault → Result (Unit {0}) CallFault
unless o = answered o tt
