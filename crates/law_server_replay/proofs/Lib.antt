mod Asking
mod Drawing
mod Lists
mod OneRing
mod QuietAttach
mod QuietEnd
mod QuietTick
mod Rooms
