pub mod StopAlong
