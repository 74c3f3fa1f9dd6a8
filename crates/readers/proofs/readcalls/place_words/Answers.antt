-- `readcalls::place_words` meets its contract. Assumes nothing.
use native.Mathlib.Omega.{arith}
use Rattle.readers.proofs.PlaceLaws.{place_room}
use borrow.Author.Rules.{rules}
use Rattle.readers.proofs.readcalls.place_words.Goals as goal

pub overflow_mul-k : goal.overflow_mul-k
overflow_mul-k c = omega (arith, place_room _ _ _ _ _ c.requires, c.requires.long)

pub overflow_add-k : goal.overflow_add-k
overflow_add-k c = omega (arith, place_room _ _ _ _ _ c.requires, c.requires.long)

pub overflow_add-result : goal.overflow_add-result
overflow_add-result c = omega (arith, place_room _ _ _ _ _ c.requires, c.requires.long)

pub offset_bounds-frame-k : goal.offset_bounds-frame-k
offset_bounds-frame-k c = omega (arith, place_room _ _ _ _ _ c.requires, c.requires.long)

pub bounds-frame-k : goal.bounds-frame-k
bounds-frame-k c = omega (arith, place_room _ _ _ _ _ c.requires, c.requires.long)

pub overflow_add-result-2 : goal.overflow_add-result-2
overflow_add-result-2 c = omega (arith, place_room _ _ _ _ _ c.requires, c.requires.long)

pub overflow_add-result-3 : goal.overflow_add-result-3
overflow_add-result-3 c = omega (arith, place_room _ _ _ _ _ c.requires, c.requires.long)

pub offset_bounds-frame-m : goal.offset_bounds-frame-m
offset_bounds-frame-m c = omega (arith, place_room _ _ _ _ _ c.requires, c.requires.long)

pub bounds-frame-m : goal.bounds-frame-m
bounds-frame-m c = omega (arith, place_room _ _ _ _ _ c.requires, c.requires.long)
