-- When a choice or a change of an optional value is there: what std's lemmas lack.
use Rattle.std.proofs.Common.{◌≡◌, Bool, true, false, if◌then◌else◌, Option, None, Some, refl, ◌&&◌, is_some, sym}
use Rattle.std.specs.Prelude.{option_map}

-- a changed value comes from a value
pub mapped : {A B : Type 0} (change : A → B) (old : Option A) (new : B) → option_map change old ≡ Some new
    → (value : A) × (old ≡ Some value) × (change value ≡ new)
mapped change (Some value) new known = (value, refl, cc)
mapped change None new known = absurd cc

-- a choice against none is a value where the test holds
pub chosen : {A : Type 0} (test : Bool) (old : Option A) (value : A) → (if test then old else None) ≡ Some value
    → (test ≡ true) × (old ≡ Some value)
chosen true old value known = (refl, known)
chosen false old value known = absurd cc

-- no changed value comes from none
pub unmapped : {A B : Type 0} (change : A → B) (old : Option A) → option_map change old ≡ None → old ≡ None
unmapped change None known = refl
unmapped change (Some value) known = cc

-- where a choice by two tests is there, both hold
pub both_hold : {A : Type 0} (first second : Bool) (value : A) (answer : Option A)
    → (if first && second then Some value else None) ≡ answer → is_some answer ≡ true
    → (first ≡ true) × (second ≡ true) × (answer ≡ Some value)
both_hold true true value answer known there = (refl, refl, sym known)
both_hold _ _ value (Some other) known there = absurd cc
both_hold _ _ value None known there = absurd cc
