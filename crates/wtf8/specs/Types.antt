-- The public types, under names that stay when a source file moves.
use Rattle.wtf8.specs.declared.buffers.buf.Wtf8Buf as buffer
use Rattle.wtf8.specs.declared.buffers.build.Build as building
use Rattle.wtf8.specs.declared.buffers.build.Stopped as stopping
use Rattle.wtf8.specs.declared.buffers.text.TextError as refusal
use Rattle.wtf8.specs.declared.codec.code_point.CodePoint as point
use Rattle.wtf8.specs.declared.from_utf16.front.EncodedFront as front
use Rattle.wtf8.specs.declared.lanes.utf8_error.Utf8Error as utf8_error
use Rattle.wtf8.specs.declared.strings.iters.IllFormedUtf16CodeUnits as unit_iterator
use Rattle.wtf8.specs.declared.strings.iters.Wtf8CodePoints as point_iterator
use Rattle.wtf8.specs.declared.strings.view.Wtf8 as view
use Rattle.wtf8.specs.declared.units.marks.UnitMark as mark
use Rattle.wtf8.specs.declared.units.slices.UnitSlice as slice

-- A code point.
abbrev pub CodePoint : Type 0
CodePoint = point.CodePoint

-- A view of a string.
abbrev pub Wtf8 : Type 0
Wtf8 = view.Wtf8

-- A buffer, whose allocator is of the type that it is given.
abbrev pub Wtf8Buf : Type 0 → Type 0
Wtf8Buf A = buffer.Wtf8Buf A

-- The iterator over a view's code points.
abbrev pub Wtf8CodePoints : Type 0
Wtf8CodePoints = point_iterator.Wtf8CodePoints

-- The iterator over a view's units.
abbrev pub IllFormedUtf16CodeUnits : Type 0
IllFormedUtf16CodeUnits = unit_iterator.IllFormedUtf16CodeUnits

-- A call of a list of calls.
abbrev pub Build : Type 0
Build = building.Build

-- What a list of calls did before memory was refused.
abbrev pub Stopped : Type 0
Stopped = stopping.Stopped

-- A byte position with the number of units before it.
abbrev pub UnitMark : Type 0
UnitMark = mark.UnitMark

-- The part of a string between two indexes of units.
abbrev pub UnitSlice : Type 0
UnitSlice = slice.UnitSlice

-- How much of a list of units was encoded.
abbrev pub EncodedFront : Type 0
EncodedFront = front.EncodedFront

-- Why bytes were not taken.
abbrev pub TextError : Type 0
TextError = refusal.TextError

-- Where bytes are not UTF-8.
abbrev pub Utf8Error : Type 0
Utf8Error = utf8_error.Utf8Error
