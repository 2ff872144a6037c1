-- How the bytes of a command are read, and the entries that hold optional addresses.
mod Layouts
mod Entries
